-- Cells fit where their parts do, and a step keeps that.
use Rattle.std.proofs.Common.{◌≡◌, ℕ, ◌+◌, ◌-◌, ◌<◌, true, List, map, Some, None, IsTrue, refl, sym, subst, arith, ltb-true, lt-ltb}
use Rattle.vfm_types.specs.declared.desc.Desc.{Desc}
use Rattle.vfm_types.specs.declared.job.Region.{Region}
use Rattle.vfm_types.specs.declared.job.Region.TheVariants.{Page, Bar}
use Rattle.vfm_types.specs.declared.entry.Entry.{Entry}
use Rattle.vfm_types.specs.declared.entry.Entry.TheVariants.{Deliver}
use Rattle.vfm_types.specs.Desc.{device_count}
use Rattle.vfm_types.specs.Job.{place_of, length_of}
use Rattle.vfm_types.specs.Valid.{IsValid}
use Rattle.vfm_plain.specs.Legal.{is_entry_of}
use Rattle.vfm_plain.specs.Shape.{LiesIn}
use Rattle.vfm_parts.specs.Parts.{Dev, World, parts_in}
use Rattle.vfm_parts.specs.Fits.{DevFits, PartsFit}
use Rattle.vfm_parts.specs.DeliverStep.{job_in}
use Rattle.vfm_parts.specs.Steps.{fault_on, after_on}
use Rattle.vfm_parts_laws.proofs.FittingQueues.{job_lies}
use Rattle.vfm_parts_laws.proofs.FittingWorlds.{step_world_fits}
use Rattle.vfm_cells.specs.Cells.{Cell, device_cell, page_cell, dev_number, page_number, cell_at, IsWhole}
use Rattle.vfm_cells.specs.CellFits.{CellFits, CellsFit}
use Rattle.vfm_cells.specs.Touched.{aim, has_region, is_aimed}
use Rattle.vfm_cells.specs.CellSteps.{step_of}
use Rattle.vfm_cells.proofs.Whole.{cell_dev, cell_page, by_cell, step_told}

pub dev_cell_fits : (D : Desc) (k : ℕ) (dev : Dev) → k < device_count D → DevFits D k dev → CellFits D (dev_number k) (device_cell dev)
dev_cell_fits D k dev h fits =
    let same : k ≡ k + 1 - 1 = omega arith in (omega arith, omega arith, subst (λ (j : ℕ). DevFits D j dev) same fits)

pub parts_to_cells : (D : Desc) (w : World) → PartsFit D (parts_in w) → CellsFit D w
parts_to_cells D w fits =
    by_cell D (λ c. CellFits D c (cell_at D w c)) (refl, fits.lead)
    (λ k h. subst (CellFits D (dev_number k)) (sym (cell_dev D (parts_in w) k h)) (dev_cell_fits D k ((parts_in w).dev k) h (fits.dev k h)))
    (λ i h. subst (CellFits D (page_number D i)) (sym (cell_page D (parts_in w) i)) (omega arith, fits.page i h))

pub cells_to_parts : (D : Desc) (w : World) → CellsFit D w → PartsFit D (parts_in w)
cells_to_parts D w fits =
    record {
      lead = (fits 0 (omega arith)).1;
      dev = λ k h.
          let cell : CellFits D (dev_number k) (device_cell ((parts_in w).dev k)) = subst (CellFits D (dev_number k)) (cell_dev D (parts_in w) k h) (fits (dev_number k) (omega arith)) in
          let same : k + 1 - 1 ≡ k = omega arith in
          subst (λ (j : ℕ). DevFits D j ((parts_in w).dev k)) same cell.2;
      page = λ i h.
          let cell : CellFits D (page_number D i) (page_cell ((parts_in w).page i)) = subst (CellFits D (page_number D i)) (cell_page D (parts_in w) i) (fits (page_number D i) (omega arith)) in
          cell.1;
    }

pub step_cells_fit : (D : Desc) (w : World) (entry : Entry) (cells : List ℕ) (afters : List Cell) → IsValid D → IsWhole D w → CellsFit D w
    → step_of D entry cells (map (cell_at D w) cells) ≡ Some afters → CellsFit D (after_on D w entry)
step_cells_fit D w entry cells afters valid whole fits step =
    let made = step_told D w entry cells afters whole step in
    parts_to_cells D (after_on D w entry) (step_world_fits D w entry valid (cells_to_parts D w fits) made.named made.allowed)

pub allowed_aimed : (D : Desc) (w : World) (entry : Entry) → IsValid D → PartsFit D (parts_in w) → IsTrue (is_entry_of D entry) → fault_on D w entry ≡ None
    → IsTrue (is_aimed D (parts_in w) entry)
allowed_aimed D w (Deliver d n) valid fits named fine =
    let inside = ltb-true d (device_count D) named in
    at (aim D d n ((parts_in w).dev d)) (place_of D (job_in D d n ((parts_in w).dev d))).offset (length_of (job_in D d n ((parts_in w).dev d)))
    (job_lies D d n ((parts_in w).dev d) valid inside (fits.dev d inside) fine)
  where
    at : (r : Region) (offset len : ℕ) → LiesIn D r offset len → has_region D r ≡ true
    at (Page p) offset len lies = lt-ltb p D.pages lies.0
    at (Bar t) offset len lies = lt-ltb t (device_count D) lies.0
allowed_aimed D w entry valid fits named fine = refl
