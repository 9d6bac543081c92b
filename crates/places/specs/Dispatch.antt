-- How a `match` on the row's place meets the rules, which go by the place's name.
use Rattle.std.specs.Prelude.{ℕ, ◌≤◌, ◌≡◌}
use Rattle.std.proofs.Math.Path.{ap}
use Rattle.std.proofs.Common.{sym, ◌∙◌}
use Rattle.std.proofs.Math.ListN.{get_or-eq_default}
use Rattle.rules.specs.Sizes.{Settings}
use Rattle.rules.specs.Pc.{order, pc_of}
use Rattle.rules.specs.declared.pc.Pc.{Pc}
use Rattle.rules.specs.Places.{accesses, access_of, does, effect_of, damaged}
use Rattle.rules.specs.declared.Row.{Row}
use Rattle.rules.specs.declared.Seen.{Seen}
use Rattle.rules.specs.declared.Effect.{Effect}
use Rattle.rules.specs.declared.Access.{Access}
use Rattle.rules.specs.declared.Access.TheVariants as by
use Rattle.rules.specs.declared.Named.TheVariants as cell

past_all : (p : ℕ) → 47 ≤ p → pc_of p ≡ Pc.Unknown
past_all p h = get_or-eq_default order Pc.Unknown h

module _ (r : Row) where
  pub accesses-at : (a : Access) (k : ℕ) → r.place ≡ k → a ≡ accesses (pc_of k) r → a ≡ access_of r
  unfolding access_of
  accesses-at a k p q = q ∙ ap (λ (m : ℕ). accesses (pc_of m) r) (sym p)

  pub accesses-past : (a : Access) → 47 ≤ r.place → a ≡ by.Load cell.Nothing → a ≡ access_of r
  unfolding access_of
  accesses-past a p q = q ∙ ap (λ (m : Pc). accesses m r) (sym (past_all r.place p))

  module _ (g : Settings) (i : Seen) (e : Effect) where
    pub does_at : (k : ℕ) → r.place ≡ k → e ≡ does g (pc_of k) r i → e ≡ effect_of g r i
    unfolding effect_of
    does_at k p q = q ∙ ap (λ (m : ℕ). does g (pc_of m) r i) (sym p)

    pub does-past : 47 ≤ r.place → e ≡ damaged r → e ≡ effect_of g r i
    unfolding effect_of
    does-past p q = q ∙ ap (λ (m : Pc). does g m r i) (sym (past_all r.place p))
