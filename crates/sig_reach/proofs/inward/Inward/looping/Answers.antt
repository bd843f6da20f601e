use Rattle.std.proofs.Common.{◌≡◌, ◌<◌, ℕ, length, true, subst, sym, arith}
use Rattle.std.specs.Prelude.{◌↔◌}
use Rattle.sig_reach.specs.Graphs.{Graph}
use Rattle.sig_reach.specs.Marks.{is_marked, AreThere, LeadsTo, all_open}
use Rattle.sig_reach.specs.Paths.{HasFreePath}
use Rattle.sig_reach.proofs.PathLaws.{sources-there, free_path}
use Rattle.sig_reach.proofs.inward.Inward.looping.Goals as goal

pub mark_loops-requires : goal.mark_loops-requires
mark_loops-requires c =
    let i = c.self.invariant in
    record { there = subst AreThere (sym c.as_slice.ensures.value) (sources-there c.self.inside.flat.now c.self.inside.mode c.self.inside.sources.items i.0 i.1) }

pub returns-clause-loops : goal.returns-clause-loops
returns-clause-loops c =
    let i = c.self.invariant in
    let marks = c.in_ok-marks.marks.items in
    let flat = c.self.inside.flat.now in
    let mode = c.self.inside.mode in
    let sources = c.self.inside.sources.items in
    let long = i.0 in
    let h : (v : ℕ) → v < length sources → (is_marked marks v ≡ true) ↔ LeadsTo sources (all_open sources) v v = subst (λ l. (v : ℕ) → v < length l → (is_marked marks v ≡ true) ↔ LeadsTo l (all_open l) v v) c.as_slice.ensures.value c.in_ok-marks.ensures.marked in
    subst (λ (g : Graph). (v : ℕ) → v < length g.flat.nodes → (is_marked marks v ≡ true) ↔ HasFreePath g.flat g.mode v v) c.self.view_is
    (λ v lt. let p = free_path flat mode sources i.1 v v i.0 in let r = h v (omega arith) in ((λ m. p.0 (r.0 m)), (λ q. r.1 (p.1 q))))
