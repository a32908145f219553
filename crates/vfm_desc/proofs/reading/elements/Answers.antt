use Rattle.std.proofs.Common.{◌≡◌, Some, refl, sym, ◌∙◌}
use Rattle.serde_json.specs.Find.{as_array}
use Rattle.serde_json.specs.View.{view, items_view}
use Rattle.vfm_desc.proofs.Elements.{elements_of-kind, elements_of-other}
use Rattle.vfm_desc.proofs.reading.elements.Goals as goal

pub returns-then-not-are_elements : goal.returns-then-not-are_elements
returns-then-not-are_elements c =
    let found : as_array (view c.args.value.now) ≡ Some (items_view c.as_slice-list.result.now) = sym c.as_array.ensures ∙ rw (c.in_ok-ok_or.ensures.ok_part, c.as_slice-list.ensures.value) refl in
    rw c.field-then-not-are_elements.ensures (elements_of-other (view c.args.value.now) c.args.level c.args.name c.as_slice-list.result.now found (sym c.if-not-are_elements.ensures))

pub returns : goal.returns
returns c =
    let found : as_array (view c.args.value.now) ≡ Some (items_view c.as_slice-list.result.now) = sym c.as_array.ensures ∙ rw (c.in_ok-ok_or.ensures.ok_part, c.as_slice-list.ensures.value) refl in
    elements_of-kind (view c.args.value.now) c.args.level c.args.name c.as_slice-list.result.now found (sym c.if-not-are_elements.ensures)
