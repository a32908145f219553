-- The machine in a core's parts is that of its list.
use Rattle.std.proofs.Common.{◌≡◌, ℕ, ◌<◌, List, [], ◌++◌, length, map, reverse, Some, slice_index_or, ap, ap₂, sym, subst, ◌∙◌}
use Rattle.std.proofs.lemmas.List.{length-map, get_or_default}
use Rattle.std.proofs.Math.ListN.{get_or-map}
use Rattle.vfm_laws.proofs.Cleanness.{legal_clean}
use Rattle.vfm_laws.proofs.Enabled.{machine_sound, plain_exists}
use Rattle.vfm_parts.proofs.Worlds.{world_tells}
use Rattle.vfm_types.specs.declared.desc.Desc.{Desc}
use Rattle.vfm_types.specs.declared.entry.Entry.{Entry}
use Rattle.vfm_types.specs.Desc.{device_count, shape_at}
use Rattle.vfm_types.specs.Deliveries.{delivers, machine_of, page_bytes}
use Rattle.vfm_types.specs.Machine.{DeviceState, Machine, device_of, no_device}
use Rattle.vfm_types.specs.Requests.{plain}
use Rattle.vfm_plain.specs.Clean.{IsClean}
use Rattle.vfm_plain.specs.Shape.{DeviceHasShape, HasShape}
use Rattle.vfm_parts.specs.Parts.{Dev, World, dev_at, no_dev, page_at}
use Rattle.vfm_parts.proofs.Listed.{listed_items, listed_same}
use Rattle.vfm_core.specs.CoreState.{FitsDesc, IsAfter, IsStagedOn}
use Rattle.vfm_core.specs.Machines.{machine_in, plain_of}

-- a world with the pages and the plain devices of a machine has that machine
same_machine : (D : Desc) (w : World) (m : Machine) → length w.devs ≡ device_count D → length w.pages ≡ D.pages → length m.devices ≡ device_count D
    → length m.pages ≡ D.pages → ((d : ℕ) → d < device_count D → (dev_at w d).plain ≡ device_of m d) → ((p : ℕ) → p < D.pages → page_at w p ≡ page_bytes m p)
    → machine_in w ≡ m
same_machine D w m devs pages devices sheets same_dev same_page =
    ap₂ (λ (ps : List (List ℕ)) (ds : List DeviceState). record { pages = ps; devices = ds })
    (sym (listed_items D.pages w.pages [] pages) ∙ listed_same D.pages (page_at w) (page_bytes m) same_page ∙ listed_items D.pages m.pages [] sheets)
    (sym (listed_items (device_count D) (map plain_of w.devs) no_device (length-map w.devs plain_of ∙ devs))
    ∙ listed_same (device_count D) (λ d. slice_index_or (map plain_of w.devs) d no_device) (device_of m)
    (λ d h. get_or-map plain_of w.devs d no_dev ∙ same_dev d h)
    ∙ listed_items (device_count D) m.devices no_device devices)

after_machine : (D : Desc) (past : List Entry) (w : World) → FitsDesc D w → IsAfter D past w → machine_in w ≡ machine_of D past
after_machine D past w fit is =
    let sound = machine_sound D fit.valid past is.legal in
    same_machine D w (machine_of D past) fit.devs fit.pages sound.shape.devices sound.shape.pages
    (λ d h. ap (λ (v : World). (dev_at v d).plain) is.told ∙ ap (λ (dev : Dev). dev.plain) ((world_tells D past).dev d h))
    (λ p h. ap (λ (v : World). page_at v p) is.told ∙ (world_tells D past).page p h)

staged_machine : (D : Desc) (before mine : List Entry) (w : World) → FitsDesc D w → IsStagedOn D before mine w → machine_in w ≡ machine_of D (mine ++ before)
staged_machine D before mine w fit is =
    let past = mine ++ before in
    let sound = machine_sound D fit.valid past is.legal in
    same_machine D w (machine_of D past) fit.devs fit.pages sound.shape.devices sound.shape.pages
    (λ d h. ap (λ (dev : Dev). dev.plain) (is.after.agrees.dev d) ∙ ap (λ (dev : Dev). dev.plain) ((world_tells D past).dev d h))
    (λ p h. is.after.agrees.page p ∙ (world_tells D past).page p h)

pub after_clean : (D : Desc) (past : List Entry) (w : World) → FitsDesc D w → IsAfter D past w → IsClean D past
after_clean D past w fit is = legal_clean D fit.valid past is.legal

pub after_plain : (D : Desc) (past : List Entry) (w : World) → FitsDesc D w → IsAfter D past w → plain D (delivers (reverse past)) ≡ Some (machine_in w)
after_plain D past w fit is = plain_exists D fit.valid past is.legal ∙ ap Some (sym (after_machine D past w fit is))

pub staged_clean : (D : Desc) (before mine : List Entry) (w : World) → FitsDesc D w → IsStagedOn D before mine w → IsClean D (mine ++ before)
staged_clean D before mine w fit is = legal_clean D fit.valid (mine ++ before) is.legal

pub staged_plain : (D : Desc) (before mine : List Entry) (w : World) → FitsDesc D w → IsStagedOn D before mine w
    → plain D (delivers (reverse (mine ++ before))) ≡ Some (machine_in w)
staged_plain D before mine w fit is =
    plain_exists D fit.valid (mine ++ before) is.legal ∙ ap Some (sym (staged_machine D before mine w fit is))

-- the plain states of equal lists of them are equal one by one
pub plain_at : (xs ys : List Dev) (d : ℕ) (x y : Dev) → d < length xs → d < length ys → map plain_of xs ≡ map plain_of ys
    → (slice_index_or xs d x).plain ≡ (slice_index_or ys d y).plain
plain_at xs ys d x y h k same =
    ap plain_of (get_or_default xs d x no_dev h) ∙ sym (get_or-map plain_of xs d no_dev) ∙ ap (λ (list : List DeviceState). slice_index_or list d no_device) same
    ∙ get_or-map plain_of ys d no_dev ∙ ap plain_of (sym (get_or_default ys d y no_dev k))

-- a device of the machine in a world is the plain state of its part
pub plain_here : (devs : List Dev) (d : ℕ) → slice_index_or (map plain_of devs) d no_device ≡ (slice_index_or devs d no_dev).plain
plain_here devs d = get_or-map plain_of devs d no_dev

-- the machine in a world has the sizes that the description has
pub shape_in : (D : Desc) (w : World) → FitsDesc D w → HasShape D (machine_in w)
shape_in D w fit =
    record {
      pages = fit.pages;
      page = λ p h. fit.fits.page p h;
      devices = length-map w.devs plain_of ∙ fit.devs;
      device = λ d h. subst (DeviceHasShape (shape_at D d)) (sym (plain_here w.devs d)) (fit.fits.dev d h).shape;
    }
