-- Every place at once: one proof that fits each of them is a proof for all.
use Rattle.std.specs.Prelude.{ℕ, zero, suc, ◌+◌, ◌-◌, ◌^◌, ◌<◌, ◌≡◌, refl, Bool, true, false}
use Rattle.std.proofs.Common.{sym, ap, ◌∙◌, subst, arith}
use Rattle.std.proofs.Math.Decide.{dec_lt}
use Rattle.std.proofs.Math.ListN.{get_or-eq_default}
use Rattle.base.specs.Pick.{pick}
use Rattle.rules.specs.Pc.{order, pc_of, code}
use Rattle.rules.specs.declared.pc.Pc.{Pc}

pub pc_of_code : (p : Pc) → pc_of (code p) ≡ p
pc_of_code Pc.Idle = refl
pc_of_code Pc.A1 = refl
pc_of_code Pc.A2 = refl
pc_of_code Pc.A3 = refl
pc_of_code Pc.A4 = refl
pc_of_code Pc.A5 = refl
pc_of_code Pc.A6 = refl
pc_of_code Pc.N1 = refl
pc_of_code Pc.N2 = refl
pc_of_code Pc.N3 = refl
pc_of_code Pc.D1 = refl
pc_of_code Pc.D2 = refl
pc_of_code Pc.P1 = refl
pc_of_code Pc.P2 = refl
pc_of_code Pc.P3 = refl
pc_of_code Pc.V0 = refl
pc_of_code Pc.V1 = refl
pc_of_code Pc.V2 = refl
pc_of_code Pc.V3 = refl
pc_of_code Pc.Reset = refl
pc_of_code Pc.Raw = refl
pc_of_code Pc.Swap = refl
pc_of_code Pc.T1 = refl
pc_of_code Pc.T2 = refl
pc_of_code Pc.T3 = refl
pc_of_code Pc.K1 = refl
pc_of_code Pc.K2 = refl
pc_of_code Pc.K3 = refl
pc_of_code Pc.K4 = refl
pc_of_code Pc.E1 = refl
pc_of_code Pc.E2 = refl
pc_of_code Pc.E3 = refl
pc_of_code Pc.B1 = refl
pc_of_code Pc.Steal = refl
pc_of_code Pc.H1 = refl
pc_of_code Pc.H2 = refl
pc_of_code Pc.Examine = refl
pc_of_code Pc.Reclaim = refl
pc_of_code Pc.Empty = refl
pc_of_code Pc.Push1 = refl
pc_of_code Pc.Push2 = refl
pc_of_code Pc.C1 = refl
pc_of_code Pc.C3 = refl
pc_of_code Pc.Wait = refl
pc_of_code Pc.S1 = refl
pc_of_code Pc.S2 = refl
pc_of_code Pc.S3 = refl
pc_of_code Pc.Unknown = refl

pub pc_is : {n : ℕ} (p : Pc) → n ≡ code p → pc_of n ≡ p
pc_is p e = ap pc_of e ∙ pc_of_code p

-- both, as a type of its own, which `search` proves by `two`
pub record Two (A B : Type 0) : Type 0 where
  pub one : A
  pub other : B

pub two : {A B : Type 0} → A → B → Two A B
two a b = record { one = a; other = b }

-- P at the 2^d places from number k on
abbrev pub Span : (Pc → Type 0) → ℕ → ℕ → Type 0
Span P k zero = P (pc_of k)
Span P k (suc d) = Two (Span P k d) (Span P (k + 2 ^ d) d)

span_at : (P : Pc → Type 0) (d k j : ℕ) → j < 2 ^ d → Span P k d → P (pc_of (k + j))
span_at P zero k j h s = let e : k ≡ k + j = omega arith in subst (λ (n : ℕ). P (pc_of n)) e s
span_at P (suc d) k j h s = go (dec_lt j (2 ^ d)) (λ q. span_at P d k j q s.one) (λ q. span_at P d (k + 2 ^ d) (j - 2 ^ d) q s.other)
  where
    go : Dec (j < 2 ^ d) → (j < 2 ^ d → P (pc_of (k + j))) → (j - 2 ^ d < 2 ^ d → P (pc_of (k + 2 ^ d + (j - 2 ^ d)))) → P (pc_of (k + j))
    go (yes q) f e = f q
    go (no q) f e = let w : k + 2 ^ d + (j - 2 ^ d) ≡ k + j = omega arith in subst (λ (n : ℕ). P (pc_of n)) w (e (omega arith))

pub every : (P : Pc → Type 0) → Span P 0 6 → (p : Pc) → P p
every P s p = subst P (pc_of_code p) (at (dec_lt (code p) 64))
  where
    at : Dec (code p < 64) → P (pc_of (code p))
    at (yes q) = let e : 0 + code p ≡ code p = omega arith in subst (λ (n : ℕ). P (pc_of n)) e (span_at P 6 0 (code p) q s)
    at (no q) = subst P (sym (get_or-eq_default order Pc.Unknown {n = code p} (omega arith))) (span_at P 6 0 63 (omega arith) s)

-- a property of both choices is one of the choice
pub pick_all {ℓ κ} : {A : Type ℓ} (P : A → Type κ) (b : Bool) (x y : A) → P x → P y → P (pick b x y)
pick_all P true x y p q = p
pick_all P false x y p q = q

-- the same, knowing the test
pub pick_case {ℓ κ} : {A : Type ℓ} (P : A → Type κ) (b : Bool) (x y : A) → (b ≡ true → P x) → (b ≡ false → P y) → P (pick b x y)
pick_case P true x y p q = p refl
pick_case P false x y p q = q refl
