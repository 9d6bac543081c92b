-- Demand 3, corollary: on the tables of a run no start and no step answers 16 or 29.
use Rattle.std.specs.Prelude.{◌≡◌, ◌≢◌, true, List, ℕ, ◌<◌}
use Rattle.rules.specs.Sizes.{threads, Settings}
use Rattle.rules.specs.Rows.{row_fits}
use Rattle.rules.specs.Step.{State}
use Rattle.view.specs.View.{view_of}
use Rattle.view.specs.Long.{long}
use Rattle.view.specs.Turn.{row-view, step-whole}
use Rattle.view.specs.Begin.{start-whole}
use Rattle.ranges.specs.Tests.{fits-row}
use Rattle.ranges.specs.RangeStep.{all_in_range, whole}
use Rattle.history.specs.Demand3.{Move, act, Event, Run, claims}
use Rattle.history.specs.Invariant.{Chosen, InvAt, inv-run}

module _ (g : Settings) (C : Chosen g) {s : State} {h : List Event} (run : Run g s h) where
  abbrev A : InvAt g (view_of s) h
  A = (inv-run g C run).at

  row : (t : ℕ) → t < threads → row_fits g s.rows32 t ≡ true
  row t ht = fits-row g s.rows32 s.rows64 t (rw (row-view s t ht) at (A.ranges.rows t (rw (long s).rows ht)))

  -- the theorem: whatever was run, and whatever is asked next
  pub undamaged : (m : Move) → ((act g s m).answer.number ≢ 16) × ((act g s m).answer.number ≢ 29)
  undamaged (Move.start t o) = start-whole g s (inv-run g C run).sized t o A.ranges.mark A.ranges.sources
  undamaged (Move.step t flag clock) =
      step-whole g s (inv-run g C run).sized row (all_in_range g C.allowed (view_of s) A.lists A.heap A.records (claims h) A.claim A.ranges (long s).rows)
      (whole g C.allowed (view_of s) A.lists A.heap A.records (claims h) A.claim A.ranges (long s).rows) t flag clock
