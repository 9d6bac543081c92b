-- The heap layer over the tables: every step and every start leaves each waiting node in exactly one list.
use Rattle.std.specs.Prelude.{Bool, List, ℕ, ◌<◌, length}
use Rattle.rules.specs.Sizes.{threads, Settings}
use Rattle.rules.specs.Words.{shard_of}
use Rattle.rules.specs.Step.{State, Out, step_of}
use Rattle.rules.specs.Start.{start_of}
use Rattle.rules.specs.declared.Operation.{Operation}
use Rattle.view.specs.View.{view_of}
use Rattle.view.specs.Long.{long}
use Rattle.view.specs.Turn
use Rattle.view.specs.Turn.{Turn, step_turn}
use Rattle.view.specs.Begin
use Rattle.view.specs.Begin.{Begin, start_begin}
use Rattle.heap.specs.Stage.{Allowed, HeapIn}
use Rattle.heap.specs.HeapStep.{heap-place, heap-ends, heap_begin, begun_lists}

abbrev pub Heaped : Settings → State → Type 0
Heaped g s = (ls : List (List ℕ)) × HeapIn g (view_of s) ls

module _ (g : Settings) (A : Allowed g) (s : State) (H : Heaped g s) (t : ℕ) where
  inside : t < threads → t < length (view_of s).rows
  inside h = rw (long s).rows h

  pub heap-step : (flag : Bool) (clock : ℕ) → Heaped g (step_of g s t flag clock).state
  heap-step flag clock = go (step_of g s t flag clock) (step_turn g s t flag clock)
    where
      go : (o : Out) → Turn g s t o → Heaped g o.state
      go o (Turn.stays n h x y e) = rw e H
      go o (Turn.stops n k w hk ht a e z d) = (H.0, rw e (heap-ends g A (view_of s) H.0 H.1 t (inside ht) n w))
      go o (Turn.takes p i ht l a e z) = let n = heap-place g A (view_of s) H.0 H.1 t (inside ht) p i l in (n.lists, rw e n.inv)

  pub heap-start : ((x : ℕ) → shard_of g x < g.shards) → (o : Operation) → Heaped g (start_of g s t o).state
  heap-start hs o = go (start_of g s t o) (start_begin g s t o)
    where
      go : (w : Out) → Begin g s t o w → Heaped g w.state
      go w (Begin.stays n h e) = rw e H
      go w (Begin.nothing e) = rw e H
      go w (Begin.begun ht m p a r e z) = (begun_lists H.0 t o, rw e (heap_begin g A (view_of s) H.0 H.1 t (inside ht) p o a (long s).next hs))
