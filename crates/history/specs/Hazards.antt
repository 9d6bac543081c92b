-- Demand 3, hazards: a claim is what the hazard holds, and a hazard that changes is told.
use Rattle.std.specs.Prelude.{◌≡◌, refl, ◌≢◌, List, ℕ, ◌<◌, length, get_or}
use Rattle.std.proofs.Common.{sym, ap, ◌∙◌, subst}
use Rattle.rules.specs.Sizes.{Settings}
use Rattle.rules.specs.Step.{State, Out, step_of}
use Rattle.rules.specs.Pc.{pc_of}
use Rattle.rules.specs.Start.{start_of, begins}
use Rattle.rules.specs.declared.Operation.{Operation}
use Rattle.rules.specs.declared.Row.{Row}
use Rattle.view.specs.Every.{pc_is, every-start, two}
use Rattle.view.specs.View.{View, view_of, enters}
use Rattle.view.specs.Long.{long}
use Rattle.view.specs.Turn.{Turn, row-view, step_turn}
use Rattle.view.specs.Begin.{Begin, start_begin}
use Rattle.history.specs.Demand3.{row, Move, act, event, event_by, Event, Run, claims, overwrites, Hazards}
use Rattle.history.specs.Seen.{hazard-is}
use Rattle.history.specs.Heard.{heard}
use Rattle.history.specs.Invariant.{Chosen, Inv, inv-run}

module _ (g : Settings) (C : Chosen g) (s : State) (h : List Event) (run : Run g s h) (c : ℕ) where
  abbrev v : View
  v = view_of s

  I : Inv g s h
  I = inv-run g C run

  abbrev Changes : State → Type 0
  Changes s' = get_or (view_of s').records.hazard c 0 ≢ get_or v.records.hazard c 0

  -- the state is that which was
  same : (s' : State) → s' ≡ s → Changes s' → ⊥
  same s' e ne = ne (ap (λ (x : State). get_or (view_of x).records.hazard c 0) e)

  of-step : (t : ℕ) (o : Out) → Turn g s t o → Changes o.state → overwrites c (event_by t (pc_of (row s t).place) (row s t) o.answer) ≡ 1
  of-step t o (Turn.stays n b x y e) ne = absurd (same o.state (ap (λ (x : Out). x.state) e) ne)
  of-step t o (Turn.stops n k w hk ht a e z d) ne = absurd (ne (ap (λ (x : View). get_or x.records.hazard c 0) e))
  of-step t o (Turn.takes p i ht l a e z) ne =
      let hr : t < length v.rows = rw (long s).rows ht in
      subst (λ (x : Row). overwrites c (event_by t (pc_of x.place) x o.answer) ≡ 1) (row-view s t ht) (rw (pc_is p l.place, a) ((heard g v t hr h I.at.aims p i l.place).changes c (λ q. ne (ap (λ (x : View). get_or x.records.hazard c 0) e ∙ q))))

  started : (t : ℕ) (o : Operation) → (enters t (begins g o) v).records.hazard ≡ v.records.hazard
  unfolding begins
  started t = every-start (λ (o : Operation). (enters t (begins g o) v).records.hazard ≡ v.records.hazard) (search two)

  of-start : (t : ℕ) (o : Operation) (w : Out) → Begin g s t o w → Changes w.state → ⊥
  of-start t o w (Begin.stays n b e) ne = same w.state (ap (λ (x : Out). x.state) e) ne
  of-start t o w (Begin.nothing e) ne = same w.state (ap (λ (x : Out). x.state) e) ne
  of-start t o w (Begin.begun ht m q a ea e z) ne = ne (ap (λ (x : View). get_or x.records.hazard c 0) e ∙ ap (λ (l : List ℕ). get_or l c 0) (started t o))

  changes : (m : Move) → Changes (act g s m).state → overwrites c (event g s m) ≡ 1
  changes (Move.start t o) ne = absurd (of-start t o (start_of g s t o) (start_begin g s t o) ne)
  changes (Move.step t flag clock) ne = of-step t (step_of g s t flag clock) (step_turn g s t flag clock) ne

pub hazards : (g : Settings) → Chosen g → Hazards g
hazards g C s h run c = (
  λ z. hazard-is s c ∙ ((inv-run g C run).at.claim.claims c (get_or (claims h) c 0) (record { is = refl; some = z })).hazard,
  λ m ne. changes g C s h run c m (λ q. ne (hazard-is (act g s m).state c ∙ q ∙ sym (hazard-is s c))),
)
