-- Demand 3, safety.
use Rattle.std.specs.Prelude.{◌≡◌, refl, ◌≢◌, ◌⊎◌, List, ℕ, ◌<◌, length, get_or}
use Rattle.std.proofs.Common.{sym, ap, ◌∙◌, inl, inr, arith}
use Rattle.rules.specs.Sizes.{Settings}
use Rattle.rules.specs.Step.{State, Out, step_of}
use Rattle.rules.specs.declared.answer.Answer.{Answer}
use Rattle.view.specs.View.{view_of}
use Rattle.view.specs.Given.{guard_words}
use Rattle.view.specs.Long.{long}
use Rattle.view.specs.Turn.{Turn, row_in, step_turn}
use Rattle.claims.specs.ClaimStep.{unclaimed, reclaim-waits}
use Rattle.history.specs.Demand3.{Event, Run, claims, Safe}
use Rattle.history.specs.Told.{told}
use Rattle.history.specs.Invariant.{Chosen, Inv, inv-run}

module _ (g : Settings) (C : Chosen g) {s : State} {h : List Event} (run : Run g s h) where
  I : Inv g s h
  I = inv-run g C run

  unclaimed-by : (t : ℕ) (o : Out) → Turn g s t o → o.answer.number ≡ 4 → (c : ℕ) → get_or (claims h) c 0 ≢ o.answer.value
  unclaimed-by t o (Turn.stays n b x y e) four c = absurd (let a : o.answer.number ≡ n = ap (λ (x : Out). x.answer.number) e in omega arith)
  unclaimed-by t o (Turn.stops n k w hk ht a e z d) four c = absurd (not4 k)
    where
      not4 : (n ≡ 25) ⊎ (n ≡ 26) → ⊥
      not4 (inl q) = let b : o.answer.number ≡ n = ap (λ (x : Answer). x.number) a in omega arith
      not4 (inr q) = let b : o.answer.number ≡ n = ap (λ (x : Answer). x.number) a in omega arith
  unclaimed-by t o (Turn.takes p i ht l a e z) four c =
      let v = view_of s in
      let hr : t < length v.rows = rw (long s).rows ht in
      let gw = guard_words s I.sized t ht in
      let w = reclaim-waits g v I.at.lists I.at.heap I.at.records I.at.zone (claims h) I.at.claim (long s) t hr gw in
      let T = told g v (long s) t h (I.at.aims t hr) p i l w in
      let f = T.frees (sym (ap (λ (x : Answer). x.number) a) ∙ four) in
      let val : o.answer.value ≡ (row_in v t).reclaimable = ap (λ (x : Answer). x.value) a ∙ f.0 in
      λ q. unclaimed g v I.at.lists I.at.heap I.at.records I.at.zone (claims h) I.at.claim (long s) t hr gw (row_in v t).reclaimable c refl f.1 (record { is = q ∙ val; some = f.1 })

pub safe : (g : Settings) → Chosen g → Safe g
safe g C s h run t flag clock c four = unclaimed-by g C run t (step_of g s t flag clock) (step_turn g s t flag clock) four c
