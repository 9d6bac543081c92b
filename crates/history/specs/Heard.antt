-- What each place's step tells of hazards: one that changes is told, and at V2 a thread has stored to its record's last.
use Rattle.std.specs.Prelude.{◌≡◌, refl, ◌≢◌, false, List, ◌∷◌, ℕ, ◌<◌, eqb, length, get_or, set}
use Rattle.std.proofs.Common.{sym, ap, ◌∙◌, get_or-set_other, ne_eqb, eq-eqb}
use Rattle.std.proofs.Math.Decide.{ℕ_discrete}
use Rattle.std.proofs.lemmas.Bool.{eqb-false}
use Rattle.rules.specs.Sizes.{Settings}
use Rattle.rules.specs.Pc.{code}
use Rattle.rules.specs.declared.pc.Pc.{Pc}
use Rattle.rules.specs.declared.pc.Pc.TheVariants as Pc
use Rattle.rules.specs.Rows.{idle}
use Rattle.rules.specs.Places.{accesses, does}
use Rattle.rules.specs.Step.{answer}
use Rattle.rules.specs.declared.Row.{Row}
use Rattle.rules.specs.declared.Seen.{Seen}
use Rattle.rules.specs.declared.Effect.{Effect}
use Rattle.lists.specs.Occ.{eq01, eq01-same}
use Rattle.lists.specs.Each.{Each, each_set}
use Rattle.view.specs.View.{View, named, applies}
use Rattle.view.specs.Every.{every, two, At, thus, either, pick_all}
use Rattle.view.specs.Rest.{all-passed, all-checked, all-emptied, all_from, all-examined, all-reclaimed, all-shut}
use Rattle.view.specs.Turn.{row_in}
use Rattle.history.specs.Demand3.{Event, event_by, aim, overwrites}

-- what the step tells that is taken at p with the effect e
abbrev pub tells : View → ℕ → Pc → Effect → Event
tells v t p e = event_by t p (row_in v t) (answer e.number e.value)

-- at V2 thread u has stored to its record's hazard last
abbrev pub Aims : List Event → ℕ → Row → Type 0
Aims h u x = x.place ≡ code Pc.V2 → aim u h ≡ x.rec

pub record Heard (v : View) (t : ℕ) (h : List Event) (p : Pc) (e : Effect) : Type 0 where
  pub changes : (c : ℕ) → get_or (applies t (named (accesses p (row_in v t))) e v).records.hazard c 0 ≢ get_or v.records.hazard c 0 → overwrites c (tells v t p e) ≡ 1
  pub aims : Each idle (Aims (tells v t p e ∷ h)) (applies t (named (accesses p (row_in v t))) e v).rows

module _ (g : Settings) (v : View) (t : ℕ) (ht : t < length v.rows) (h : List Event) (A : Each idle (Aims h) v.rows) where
  abbrev r : Row
  r = row_in v t

  abbrev hz : List ℕ
  hz = v.records.hazard

  abbrev K : Pc → Effect → Type 0
  K p e = Heard v t h p e

  -- the hazards and the rows after it
  abbrev hz' : Pc → Effect → List ℕ
  hz' p e = (applies t (named (accesses p r)) e v).records.hazard

  abbrev rows' : Pc → Effect → List Row
  rows' p e = (applies t (named (accesses p r)) e v).rows

  -- a row that is not at V2
  record Off (x : Row) : Type 0 where
    pub off : eqb x.place (code Pc.V2) ≡ false

  away : {x : Row} → eqb x.place (code Pc.V2) ≡ false → Off x
  away e = record { off = e }

  seats : (k : Event) (x : Row) → ((u : ℕ) → u ≢ t → aim u (k ∷ h) ≡ aim u h) → Aims (k ∷ h) t x → Each idle (Aims (k ∷ h)) (set v.rows t x)
  seats k x f a = each_set idle (Aims h) (Aims (k ∷ h)) v.rows t x ht (λ u hu ne b q. f u ne ∙ b q) a A

  leaves : (k : Event) (x : Row) → ((u : ℕ) → u ≢ t → aim u (k ∷ h) ≡ aim u h) → Off x → Each idle (Aims (k ∷ h)) (set v.rows t x)
  leaves k x f o = seats k x f (λ q. absurd (eqb-false x.place (code Pc.V2) o.off q))

  -- ---- no hazard is stored to, the record's is, or all are
  still : {p : Pc} {e : Effect} → hz' p e ≡ hz → rows' p e ≡ set v.rows t e.row → ((u : ℕ) → aim u (tells v t p e ∷ h) ≡ aim u h) → Off e.row → At K p e
  still {p} {e} s y f o = thus (record { changes = λ c ne. absurd (ne (ap (λ (l : List ℕ). get_or l c 0) s)); aims = rw y (leaves (tells v t p e) e.row (λ u _. f u) o) })

  -- of a store to the record's hazard
  others : (u : ℕ) → u ≢ t → aim u (Event.stored t r.rec ∷ h) ≡ aim u h
  others u ne = rw (ne_eqb t u (λ k. ne (sym k)))

  changed : (x c : ℕ) → get_or (set hz r.rec x) c 0 ≢ get_or hz c 0 → Dec (c ≡ r.rec) → eq01 c r.rec ≡ 1
  changed x c ne (yes k) = rw k (eq01-same r.rec)
  changed x c ne (no k) = absurd (ne (get_or-set_other hz r.rec c x 0 k))

  puts : {p : Pc} {e : Effect} → tells v t p e ≡ Event.stored t r.rec → hz' p e ≡ set hz r.rec e.put → rows' p e ≡ set v.rows t e.row → Off e.row → At K p e
  puts {p} {e} q s y o = thus (record { changes = λ c ne. rw q (changed e.put c (rw s at ne) (ℕ_discrete c r.rec)); aims = rw (y, q) (leaves (Event.stored t r.rec) e.row others o) })

  clears : {p : Pc} {e : Effect} → tells v t p e ≡ Event.cleared → rows' p e ≡ set v.rows t e.row → Off e.row → At K p e
  clears {p} {e} q y o = thus (record { changes = λ c ne. rw q; aims = rw (y, q) (leaves Event.cleared e.row (λ u _. refl) o) })

  -- V1 goes to V2
  kV1 : (i : Seen) → At K Pc.V1 (does g Pc.V1 r i)
  kV1 i = thus (record { changes = λ c ne. changed r.node c ne (ℕ_discrete c r.rec); aims = seats (Event.stored t r.rec) _ others (λ _. rw (eq-eqb t t refl)) })

  pub heard : (p : Pc) (i : Seen) → r.place ≡ code p → K p (does g p r i)
  heard p i l =
      (every (λ (p : Pc). eqb r.place (code Pc.V2) ≡ eqb (code p) (code Pc.V2) → At K p (does g p r i))
      (search (two, kV1, either, still, puts, clears, away, pick_all Off, all-passed Off g, all-checked Off g, all-emptied Off g, all_from Off g, all-examined Off g, all-reclaimed Off g, all-shut Off g) depth 16 fits 8000)
      p (ap (λ (n : ℕ). eqb n (code Pc.V2)) l)).holds
