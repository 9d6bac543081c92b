-- Demand 1 on refusals, for any tables, thread, flag, clock and fields: what is refused changes no table. A refusal is
-- an answer from 16 on.
-- The two exceptions are 25 at a step and 26: the thread is idle after them and the step counts; nothing else changes.
use Rattle.std.specs.Prelude.{ℕ, ◌≤◌, ◌≡◌, ◌≢◌, ◌⊎◌, Bool}
use Rattle.std.proofs.Common.{ap, ◌∙◌, inl, inr, arith}
use Rattle.rules.specs.Sizes.{Settings}
use Rattle.rules.specs.Rows.{idle, stored32, stored64}
use Rattle.rules.specs.Step.{State, Out, state, ticked, step_of}
use Rattle.rules.specs.Start.{start_of}
use Rattle.rules.specs.declared.answer.Answer.{Answer}
use Rattle.rules.specs.declared.Operation.{Operation}
use Rattle.view.specs.Given.{idled}
use Rattle.view.specs.Turn.{Turn, step_turn}
use Rattle.view.specs.Begin.{Begin, start_begin}

-- 1. A start that is refused.
abbrev pub StartKeeps : Settings → Type 0
StartKeeps g = (s : State) (t : ℕ) (o : Operation) → 16 ≤ (start_of g s t o).answer.number → (start_of g s t o).state ≡ s

abbrev number : Out → ℕ
number o = o.answer.number

-- 2. A step that is refused, but not with 25 or 26.
abbrev pub StepKeeps : Settings → Type 0
StepKeeps g =
    (s : State) (t : ℕ) (flag : Bool) (clock : ℕ) → 16 ≤ number (step_of g s t flag clock)
    → number (step_of g s t flag clock) ≢ 25 → number (step_of g s t flag clock) ≢ 26
    → (step_of g s t flag clock).state ≡ s

-- 3. A step that is refused with 25 or 26.
abbrev pub StepEnds : Settings → Type 0
StepEnds g =
    (s : State) (t : ℕ) (flag : Bool) (clock : ℕ)
    → (number (step_of g s t flag clock) ≡ 25) ⊎ (number (step_of g s t flag clock) ≡ 26)
    → (step_of g s t flag clock).state
    ≡ state (ticked s.cells) (stored32 s.rows32 t idle) (stored64 s.rows64 t idle) s.guards

-- ---- the proofs
start-keeps : (g : Settings) → StartKeeps g
start-keeps g s t o = go (start_of g s t o) (start_begin g s t o)
  where
    go : (w : Out) → Begin g s t o w → 16 ≤ number w → w.state ≡ s
    go w (Begin.stays n h e) b = ap (λ (x : Out). x.state) e
    go w (Begin.nothing e) b = ap (λ (x : Out). x.state) e
    go w (Begin.begun ht m p a n e z) b =
        absurd (let q : number w ≡ 1 = ap (λ (x : Answer). x.number) n in omega arith)

step_keeps : (g : Settings) → StepKeeps g
step_keeps g s t flag clock = go (step_of g s t flag clock) (step_turn g s t flag clock)
  where
    go : (o : Out) → Turn g s t o → 16 ≤ number o → number o ≢ 25 → number o ≢ 26 → o.state ≡ s
    go o (Turn.stays n h x y e) b c d = ap (λ (w : Out). w.state) e
    go o (Turn.stops n (inl k) w hk ht a e z i) b c d = absurd (c (ap (λ (x : Answer). x.number) a ∙ k))
    go o (Turn.stops n (inr k) w hk ht a e z i) b c d = absurd (d (ap (λ (x : Answer). x.number) a ∙ k))
    go o (Turn.takes p i ht l a e z) b c d =
        absurd (let q = ap (λ (x : Answer). x.number) a in let m = l.low in omega arith)

step-ends : (g : Settings) → StepEnds g
step-ends g s t flag clock = go (step_of g s t flag clock) (step_turn g s t flag clock)
  where
    go : (o : Out) → Turn g s t o → (number o ≡ 25) ⊎ (number o ≡ 26) → o.state ≡ idled s t
    go o (Turn.stays n h x y e) (inl k) =
        absurd (x (let q : number o ≡ n = ap (λ (w : Out). number w) e in omega arith))
    go o (Turn.stays n h x y e) (inr k) =
        absurd (y (let q : number o ≡ n = ap (λ (w : Out). number w) e in omega arith))
    go o (Turn.stops n k w hk ht a e z i) b = i
    go o (Turn.takes p i ht l a e z) (inl k) =
        absurd (let q = ap (λ (x : Answer). x.number) a in let m = l.low in omega arith)
    go o (Turn.takes p i ht l a e z) (inr k) =
        absurd (let q = ap (λ (x : Answer). x.number) a in let m = l.low in omega arith)

pub demand_1 : (g : Settings) → StartKeeps g × StepKeeps g × StepEnds g
demand_1 g = (start-keeps g, step_keeps g, step-ends g)
