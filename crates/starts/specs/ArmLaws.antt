-- How a match on the operation meets the rules of the starts.
use Rattle.std.specs.Prelude.{ℕ, ◌*◌, ◌≡◌, List, get_or}
use Rattle.std.proofs.Common.{ap, sym, ◌∙◌}
use Rattle.rules.specs.Sizes.{row32, Settings}
use Rattle.rules.specs.Step.{State}
use Rattle.rules.specs.Start.{begins, refusal, refuse_by, refuse_of}
use Rattle.rules.specs.declared.Operation.{Operation}
use Rattle.rules.specs.declared.Entry.{Entry}

pub begun : (g : Settings) (o p : Operation) (e : Entry) → o ≡ p → e ≡ begins g p → e ≡ begins g o
begun g o p e q r = r ∙ ap (begins g) (sym q)

pub refuses : (records sources state rows32 : List ℕ) (t : ℕ) (o p : Operation) (n : ℕ) → o ≡ p → n ≡ refusal records sources state rows32 t p → n ≡ refusal records sources state rows32 t o
refuses records sources state rows32 t o p n q r = r ∙ ap (refusal records sources state rows32 t) (sym q)

-- the refusal of a start, put together
pub refused-by : (s : State) (t : ℕ) (o : Operation) (n mark place own : ℕ) → n ≡ refuse_by mark place own → own ≡ refusal s.cells.records s.cells.sources s.cells.state s.rows32 t o → place ≡ get_or s.rows32 (t * row32) 0 → mark ≡ get_or s.cells.heads 2 0 → n ≡ refuse_of s t o
unfolding refuse_of
refused-by s t o n mark place own p q r m = p ∙ λ i. refuse_by (m i) (r i) (q i)
