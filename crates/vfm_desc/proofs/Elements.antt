-- The elements of a JSON list, as a vector holds them.
use Rattle.std.proofs.Common.{◌≡◌, true, false, List, [], ◌∷◌, Some, Ok, Err, refl, ap, map}
use Rattle.serde_json.specs.Data.{Data}
use Rattle.serde_json.specs.Find.{as_array}
use Rattle.serde_json.specs.View.{items_of, items_view, view}
use Rattle.serde_json.specs.declared.value.Value.{Value}
use Rattle.std.specs.List.{list_all}
use Rattle.std.proofs.lemmas.List.Folds.{list_all-map}
use Rattle.vfm_types.specs.declared.fault.FieldName.{FieldName}
use Rattle.vfm_types.specs.declared.fault.DescFault.TheVariants.{Kind}
use Rattle.vfm_desc.specs.declared.reading.Level.{Level}
use Rattle.vfm_desc.specs.Reading.{elements, is_element, field_at, elements_of}

-- what a list of data was made from
elements-items_of : (values : List Data) → elements (items_of values) ≡ values
elements-items_of [] = refl
elements-items_of (value ∷ values) = ap (λ (rest : List Data). value ∷ rest) (elements-items_of values)

-- the elements of a vector of values
pub elements-items_view : (values : List Value) → elements (items_view values) ≡ map view values
elements-items_view values = elements-items_of (map view values)

-- all elements are of their kind
pub all_elements : (name : FieldName) (values : List Value) → list_all (is_element name) (map view values) ≡ list_all (λ value. is_element name (view value)) values
all_elements name values = list_all-map (is_element name) view values

-- a list whose elements are of their kind
pub elements_of-kind : (value : Data) (level : Level) (name : FieldName) (values : List Value) → as_array value ≡ Some (items_view values)
    → list_all (λ value. is_element name (view value)) values ≡ true → elements_of value level name ≡ Ok (map view values)
unfolding elements_of
elements_of-kind value level name values found kind = rw (found, elements-items_view values, all_elements name values, kind) refl

-- a list with an element of another kind
pub elements_of-other : (value : Data) (level : Level) (name : FieldName) (values : List Value) → as_array value ≡ Some (items_view values)
    → list_all (λ value. is_element name (view value)) values ≡ false → elements_of value level name ≡ Err (Kind (field_at level name))
unfolding elements_of
elements_of-other value level name values found other = rw (found, elements-items_view values, all_elements name values, other) refl
