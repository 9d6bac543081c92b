-- What a row has reclaimed in all is within the steps counted: each reclaim is a step.
use Rattle.std.specs.Prelude.{◌≡◌, List, ℕ, ◌+◌, ◌≤◌, ◌<◌, length, get_or, set}
use Rattle.std.proofs.Common.{arith}
use Rattle.rules.specs.Sizes.{steps, Settings}
use Rattle.rules.specs.Words.{plus}
use Rattle.rules.specs.declared.pc.Pc.{Pc}
use Rattle.rules.specs.Rows.{idle}
use Rattle.rules.specs.Places.{accesses, does, ends}
use Rattle.rules.specs.Start.{begins}
use Rattle.rules.specs.declared.Operation.{Operation}
use Rattle.rules.specs.declared.Row.{Row}
use Rattle.rules.specs.declared.Seen.{Seen}
use Rattle.rules.specs.declared.Effect.{Effect}
use Rattle.rules.specs.declared.Named.TheVariants as cell
use Rattle.lists.specs.Each.{each_set}
use Rattle.view.specs.View.{View, named, applies, enters}
use Rattle.view.specs.Rest.{all-passed, all-checked, all-emptied, all_from, all-examined, all-reclaimed, all-shut}
use Rattle.view.specs.Turn.{row_in}
use Rattle.view.specs.Every.{every, every-start, two, At, thence, either, pick_all}

abbrev pub TotalAt : ℕ → List Row → Type 0
TotalAt ticks rows = (u : ℕ) → u < length rows → (get_or rows u idle).total ≤ ticks

abbrev pub TotalIn : View → Type 0
TotalIn v = TotalAt v.counters.ticks v.rows

module _ (g : Settings) (v : View) (I : TotalIn v) (t : ℕ) (ht : t < length v.rows) where
  abbrev r : Row
  r = row_in v t

  -- a start's row has reclaimed nothing
  begins-with : (x : Row) → x.total ≡ 0 → TotalAt v.counters.ticks (set v.rows t x)
  begins-with x e = each_set idle (λ u y. y.total ≤ v.counters.ticks) (λ u y. y.total ≤ v.counters.ticks) v.rows t x ht (λ u hu ne q. q) (omega arith) I

  pub total_begin : (o : Operation) → TotalIn (enters t (begins g o) v)
  unfolding begins
  total_begin = every-start (λ (o : Operation). TotalIn (enters t (begins g o) v)) (search (two, begins-with))

  module _ (hk : v.counters.ticks < steps) where
    abbrev K : Pc → Effect → Type 0
    K p e = TotalIn (applies t (named (accesses p r)) e v)

    sit : (x : Row) → x.total ≤ r.total + 1 → TotalAt (plus v.counters.ticks 1) (set v.rows t x)
    sit x h = each_set idle (λ u y. y.total ≤ v.counters.ticks) (λ u y. y.total ≤ plus v.counters.ticks 1) v.rows t x ht (λ u hu ne q. omega arith) (let a = I t ht in omega arith) I

    pub total-ends : (m : ℕ) → TotalIn (applies t cell.Nothing (ends m) v)
    total-ends m = sit idle (omega arith)

    record Tot (x : Row) : Type 0 where
      pub le : x.total ≤ r.total + 1

    kept : (x : Row) → x.total ≡ r.total → Tot x
    kept x h = record { le = omega arith }

    none : (x : Row) → x.total ≡ 0 → Tot x
    none x h = record { le = omega arith }

    more : (x : Row) → x.total ≡ plus r.total 1 → Tot x
    more x h = record { le = omega arith }

    leaf : {p : Pc} {e : Effect} → TotalAt (plus v.counters.ticks 1) (set v.rows t e.row) ≡ K p e → Tot e.row → At K p e
    leaf {p} {e} q h = thence q (sit e.row h.le)

    pub total-place : (p : Pc) (i : Seen) → K p (does g p r i)
    total-place p i = (every (λ (p : Pc). At K p (does g p r i)) (search (two, either, leaf, pick_all Tot, all-passed Tot g, all-checked Tot g, all-emptied Tot g, all_from Tot g, all-examined Tot g, all-reclaimed Tot g, all-shut Tot g, kept, none, more) depth 16 fits 8000) p).holds
