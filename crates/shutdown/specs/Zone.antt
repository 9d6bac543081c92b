-- Shutdown: until it starts no thread is at its places; from then on every thread is idle or at them.
use Rattle.std.specs.Prelude.{◌≡◌, refl, ◌≢◌, ◌⊎◌, List, [], ◌∷◌, ℕ, ◌<◌, get_or, set}
use Rattle.std.proofs.Common.{sym, ap, subst, inl, inr, arith}
use Rattle.std.proofs.Math.ListN.{length}
use Rattle.rules.specs.Sizes.{threads, Settings}
use Rattle.rules.specs.Pc.{pc_of, code}
use Rattle.rules.specs.declared.pc.Pc.{Pc}
use Rattle.rules.specs.declared.pc.Pc.TheVariants as Pc
use Rattle.rules.specs.Rows.{idle}
use Rattle.rules.specs.Places.{accesses, does, ends}
use Rattle.rules.specs.Start.{begins}
use Rattle.rules.specs.declared.Operation.{Operation}
use Rattle.rules.specs.declared.Operation.TheVariants.{Shutdown}
use Rattle.rules.specs.declared.Row.{Row}
use Rattle.rules.specs.declared.Seen.{Seen}
use Rattle.rules.specs.declared.Effect.{Effect}
use Rattle.rules.specs.declared.Named.TheVariants as cell
use Rattle.lists.specs.Each.{each_set}
use Rattle.view.specs.View.{View, named, applies, enters}
use Rattle.view.specs.Every.{pc_is, classed, every, every-start, two, never, At, thus, thence, either, pick_all}
use Rattle.view.specs.Rest.{all-passed, all-checked, all-emptied, all_from, all-examined, all-reclaimed, all-shut}
use Rattle.view.specs.Turn.{row_in, Look}
use Rattle.view.specs.Begin.{Admitted}
use Rattle.records.specs.Hold.{Hold, hold}

pub data Side : Type 0 where
  inside idle' shutting : Side

abbrev pub side : Pc → Side
side = classed inside ((Pc.Idle, idle') ∷ (Pc.Unknown, idle') ∷ (Pc.S1, shutting) ∷ (Pc.S2, shutting) ∷ (Pc.S3, shutting) ∷ [])

abbrev pub Open : Side → Type 0
Open inside = Unit {0}
Open idle' = Unit {0}
Open shutting = ⊥

abbrev pub Shut : Side → Type 0
Shut inside = ⊥
Shut idle' = Unit {0}
Shut shutting = Unit {0}

abbrev pub OpenRow : Row → Type 0
OpenRow r = Open (side (pc_of r.place))

abbrev pub ShutRow : Row → Type 0
ShutRow r = Shut (side (pc_of r.place))

abbrev pub Zone : ℕ → List Row → Type 0
Zone mark rows = ((mark ≡ 0) × ((u : ℕ) → u < length rows → OpenRow (get_or rows u idle))) ⊎ ((mark ≢ 0) × ((u : ℕ) → u < length rows → ShutRow (get_or rows u idle)))

abbrev pub ZoneIn : View → Type 0
ZoneIn v = Zone v.heads.mark v.rows

-- a thread that is idle or shutting down holds no record
pub shut-free : (p : Pc) → Shut (side p) → hold p ≡ Hold.free
shut-free = every (λ (p : Pc). Shut (side p) → hold p ≡ Hold.free) (search (two, never) depth 12 fits 4000)

module _ (g : Settings) (v : View) (I : ZoneIn v) (t : ℕ) (ht : t < length v.rows) where
  abbrev r : Row
  r = row_in v t

  abbrev K : Pc → Effect → Type 0
  K p e = ZoneIn (applies t (named (accesses p r)) e v)

  abbrev Sit : Row → Type 0
  Sit x = Zone v.heads.mark (set v.rows t x)

  -- at a place of shutdown every row is idle or there
  pub all-shut-rows : (p : Pc) → r.place ≡ code p → (Open (side p) → ⊥) → (v.heads.mark ≢ 0) × ((u : ℕ) → u < length v.rows → ShutRow (get_or v.rows u idle))
  all-shut-rows p e not = go I
    where
      go : ZoneIn v → (v.heads.mark ≢ 0) × ((u : ℕ) → u < length v.rows → ShutRow (get_or v.rows u idle))
      go (inl m) = absurd (not (subst (λ (q : Pc). Open (side q)) (pc_is p e) (m.1 t ht)))
      go (inr m) = m

  pub mark_open : (p : Pc) → r.place ≡ code p → (Shut (side p) → ⊥) → v.heads.mark ≡ 0
  mark_open p e not = go I
    where
      go : ZoneIn v → v.heads.mark ≡ 0
      go (inl m) = m.0
      go (inr m) = absurd (not (subst (λ (q : Pc). Shut (side q)) (pc_is p e) (m.1 t ht)))

  -- no step crosses over: the row after a step at p is on p's side, or idle
  abbrev Onward : Side → Row → Type 0
  Onward inside x = OpenRow x
  Onward idle' x = x.place ≡ r.place
  Onward shutting x = ShutRow x

  onward : (p : Pc) → r.place ≡ code p → (x : Row) → Onward (side p) x → Sit x
  onward p e x = go (side p) (subst (λ (q : Pc). Open (side q)) (pc_is p e)) (subst (λ (q : Pc). Shut (side q)) (pc_is p e)) I
    where
      open' : ((u : ℕ) → u < length v.rows → OpenRow (get_or v.rows u idle)) → OpenRow x → (u : ℕ) → u < length (set v.rows t x) → OpenRow (get_or (set v.rows t x) u idle)
      open' f o = each_set idle (λ u y. OpenRow y) (λ u y. OpenRow y) v.rows t x ht (λ u hu ne q. q) o f

      shut' : ((u : ℕ) → u < length v.rows → ShutRow (get_or v.rows u idle)) → ShutRow x → (u : ℕ) → u < length (set v.rows t x) → ShutRow (get_or (set v.rows t x) u idle)
      shut' f o = each_set idle (λ u y. ShutRow y) (λ u y. ShutRow y) v.rows t x ht (λ u hu ne q. q) o f

      go : (s : Side) → (OpenRow r → Open s) → (ShutRow r → Shut s) → ZoneIn v → Onward s x → Sit x
      go inside a b (inl m) o = inl (m.0, open' m.1 o)
      go inside a b (inr m) o = absurd (b (m.1 t ht))
      go idle' a b (inl m) o = inl (m.0, open' m.1 (subst (λ (n : ℕ). Open (side (pc_of n))) (sym o) (m.1 t ht)))
      go idle' a b (inr m) o = inr (m.0, shut' m.1 (subst (λ (n : ℕ). Shut (side (pc_of n))) (sym o) (m.1 t ht)))
      go shutting a b (inl m) o = absurd (a (m.1 t ht))
      go shutting a b (inr m) o = inr (m.0, shut' m.1 o)

  leaf : {p : Pc} {e : Effect} → Sit e.row ≡ K p e → r.place ≡ code p → Onward (side p) e.row → At K p e
  leaf {p} {e} q h o = thence q (onward p h e.row o)

  kS3 : (i : Seen) → r.place ≡ code Pc.S3 → At K Pc.S3 (does g Pc.S3 r i)
  kS3 i e = thus (inr (omega arith, each_set idle (λ u y. ShutRow y) (λ u y. ShutRow y) v.rows t idle ht (λ u hu ne q. q) tt (all-shut-rows Pc.S3 e (λ q. q)).1))

  here : (p : Pc) → r.place ≡ code p → Onward (side p) r
  here p e = go (side p) refl
    where
      go : (s : Side) → side p ≡ s → Onward s r
      go inside q = subst (λ (w : Pc). Open (side w)) (sym (pc_is p e)) (rw q tt)
      go idle' q = refl
      go shutting q = subst (λ (w : Pc). Shut (side w)) (sym (pc_is p e)) (rw q tt)

  pub zone-place : (p : Pc) (i : Seen) → Look g v t p r i → K p (does g p r i)
  zone-place p i l = (every (λ (p : Pc). r.place ≡ code p → Onward (side p) r → At K p (does g p r i)) (search (two, either, kS3, leaf, tt, pick_all ShutRow, all-passed OpenRow g, all-checked OpenRow g, all-emptied OpenRow g, all_from OpenRow g, all-examined OpenRow g, all-reclaimed OpenRow g, all-shut ShutRow g) depth 16 fits 8000) p l.place (here p l.place)).holds

  pub zone-ends : (n : ℕ) → (pc_of r.place ≡ Pc.N1) ⊎ (pc_of r.place ≡ Pc.Swap) → ZoneIn (applies t cell.Nothing (ends n) v)
  zone-ends n w = go I
    where
      open' : ((pc_of r.place ≡ Pc.N1) ⊎ (pc_of r.place ≡ Pc.Swap)) → Shut (side (pc_of r.place)) → ⊥
      open' (inl e) h = subst (λ (q : Pc). Shut (side q)) e h
      open' (inr e) h = subst (λ (q : Pc). Shut (side q)) e h

      go : ZoneIn v → Sit idle
      go (inl m) = inl (m.0, each_set idle (λ u y. OpenRow y) (λ u y. OpenRow y) v.rows t idle ht (λ u hu ne q. q) tt m.1)
      go (inr m) = absurd (open' w (m.1 t ht))

  -- a start finds the mark 0
  pub zone_begin : v.heads.mark ≡ 0 → (o : Operation) → Admitted v t o → length v.rows ≡ threads → ZoneIn (enters t (begins g o) v)
  unfolding begins
  zone_begin m o a hl = every-start (λ (o : Operation). Admitted v t o → ZoneIn (enters t (begins g o) v)) (search (two, fresh, shutdown)) o a
    where
      op : ZoneIn v → (u : ℕ) → u < length v.rows → OpenRow (get_or v.rows u idle)
      op (inl q) = q.1
      op (inr q) = absurd (q.0 m)

      fresh : (x : Row) → OpenRow x → Sit x
      fresh x k = inl (m, each_set idle (λ u y. OpenRow y) (λ u y. OpenRow y) v.rows t x ht (λ u hu ne q. q) k (op I))

      shutdown : Admitted v t Shutdown → ZoneIn (enters t (begins g Shutdown) v)
      shutdown a = inr (omega arith, each_set idle (λ u y. y.place ≡ 0) (λ u y. ShutRow y) v.rows t _ ht (λ u hu ne q. subst (λ (p : Pc). Shut (side p)) (sym (ap pc_of q)) tt) tt (λ u hu. a.0 u (rw hl at hu)))
