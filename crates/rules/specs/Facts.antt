-- Facts of the rules on which demand 3 rests. The edits under must-fail/ are wrong rules which they refuse.
use Rattle.std.specs.Prelude.{ℕ, ◌<◌, ◌≡◌, refl, ◌≢◌, Bool, true, false, eqb, ltb}
use Rattle.std.proofs.Common.{arith, eqb-true}
use Rattle.base.specs.Pick.{pick}
use Rattle.rules.specs.Sizes.{nodes, Settings}
use Rattle.rules.specs.declared.pc.Pc.TheVariants as Pc
use Rattle.rules.specs.Rows.{go_to, seeing, with_node}
use Rattle.rules.specs.Places.{does, becomes, finishes, retry, stores}
use Rattle.rules.specs.Start.{retire_by, busy_by}
use Rattle.rules.specs.declared.Row.{Row}
use Rattle.rules.specs.declared.Seen.{Seen}

-- a node whose retirement is accepted is in no source
pub retire-unlinked : (n state : ℕ) (linked damaged : Bool) → retire_by n state linked damaged ≡ 0 → linked ≡ false
retire-unlinked n state false damaged h = refl
retire-unlinked n state true damaged h =
    absurd (let q : 0 < retire_by n state true damaged = named in omega arith)
  where
    some : (b : Bool) {x y : ℕ} → 0 < x → 0 < y → 0 < pick b x y
    some true h k = h
    some false h k = k

    named : 0 < retire_by n state true damaged
    named =
        some (eqb n 0) (omega arith) (some (ltb nodes n) (omega arith) (some (eqb state 1) (omega arith) (omega arith)))

-- a shutdown that starts finds no thread inside an operation and no record owned
pub shutdown-alone : (inside owned : Bool) → busy_by inside owned ≡ 0 → (inside ≡ false) × (owned ≡ false)
shutdown-alone true o h = absurd (omega arith)
shutdown-alone false true h = absurd (omega arith)
shutdown-alone false false h = (refl, refl)

-- a protect, try or try_protect that is done has seen its node in the source in that step, after the hazard was stored
module _ (g : Settings) (r : Row) (i : Seen) where
  pub done-saw : ((does g Pc.V0 r i).number ≢ 2) × ((does g Pc.V1 r i).number ≢ 2)
      × ((does g Pc.V2 r i).number ≡ 2 → i.v ≡ r.node) × ((does g Pc.V3 r i).number ≢ 2)
  done-saw = (λ h. omega arith, λ h. omega arith, saw (eqb i.v r.node) refl, retries (eqb r.operation 3))
    where
      saw : (b : Bool) → eqb i.v r.node ≡ b
          → (pick b (finishes i.v) (becomes (go_to Pc.V3 (seeing i.v r)))).number ≡ 2 → i.v ≡ r.node
      saw true e h = eqb-true i.v r.node e
      saw false e h = absurd (omega arith)

      retries : (b : Bool)
          → (pick b (stores 0 (becomes (go_to Pc.V1 (with_node r.seen r)))) (stores 0 (retry r.seen))).number ≢ 2
      retries true h = omega arith
      retries false h = omega arith
