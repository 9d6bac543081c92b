-- How the step is put together of its parts.
use Prim.Native.Nat.{ℕ, suc, ◌+◌, ◌*◌, ◌-◌, ◌≤◌, ◌<◌, min}
use Rattle.std.specs.Prelude.{◌≡◌, Bool, true, false, take, drop, get_or, eqb, ltb, leb}
use Rattle.std.proofs.Math.Path.{refl, ap}
use Rattle.std.proofs.Common.{sym, ◌∙◌, eq-eqb, ne_eqb, eqb-true, le-leb, le-ltb, lt-ltb}
use mathlib.Core.List.{List, []}
use Rattle.std.proofs.Math.ListN.{length, length-take, length-drop}
use Rattle.std.proofs.Math.Nat.{add-sub_cancel_left}
use native.Mathlib.Omega.{arith}
use borrow.Rule.Slice.PartMut.{put_mid}
use Rattle.std.proofs.lemmas.Bool.{lt-leb}
use Rattle.base.specs.Pick.{pick, both, is-both, is_yes, is_no, pick_yes, pick_no}
use Rattle.rules.specs.Sizes.{records, sources, nodes, threads, row32, head_cells, counter_cells, from_sources, from_records, from_rows, steps, Settings}
use Rattle.rules.specs.Words.{is_guarded}
use Rattle.rules.specs.Rows.{first, row_fits, row_at}
use Rattle.rules.specs.Cells.{in_range, address, accessed}
use Rattle.rules.specs.Places.{access_of, follow_of, effect_of}
use Rattle.rules.specs.Step.{State, part, lent, guards_after, guards_of, guards_given, fetched, seen, read_by, judge, judged, look_by, look_of, untaken_for, state, Out, out, answer, refused, cells_given, given, take_by, take_of, step_in, step_of, sizes}
use Rattle.rules.specs.declared.Row.{Row}
use Rattle.rules.specs.declared.Cell.{Cell}
use Rattle.rules.specs.declared.Seen.{Seen}
use Rattle.rules.specs.declared.Effect.{Effect}
use Rattle.rules.specs.declared.Guards.{Guards}
use Rattle.rules.specs.declared.Access.{Access}
use Rattle.rules.specs.declared.Named.{Named}
use Rattle.tables.specs.PartLaws.{on_cells}
use Rattle.rows.specs.RowLaws.{with_row}

-- what a call on the thread's part of the guard words says of the whole table
pub guards-part : (g p : List ℕ) (t : ℕ) (m : Guards) → p ≡ guards_after (take (t * 64 + 64 - t * 64) (drop (t * 64) g)) m → put_mid (t * 64) (t * 64 + 64 - t * 64) g p ≡ guards_given g t m
unfolding guards_given
guards-part g p t m e =
    ap (λ (q : List ℕ). put_mid (t * 64) (t * 64 + 64 - t * 64) g q) e
    ∙ ap (λ (k : ℕ). put_mid (t * 64) k g (guards_after (take k (drop (t * 64) g)) m)) (add-sub_cancel_left (t * 64) 64)

pub guarded-part : (g : List ℕ) (t n : ℕ) (r : Bool) → r ≡ is_guarded (take (t * 64 + 64 - t * 64) (drop (t * 64) g)) n → r ≡ is_guarded (guards_of g t) n
guarded-part g t n r e = e ∙ ap (λ (k : ℕ). is_guarded (take k (drop (t * 64) g)) n) (add-sub_cancel_left (t * 64) 64)

pub has_read : (s : State) (t : ℕ) (f : Bool) (k : ℕ) (r : Row) (c l : Cell) (u x y n : ℕ) (on : Bool) (i : Seen) → i ≡ seen x y u on t f k → on ≡ is_guarded (guards_of s.guards t) n → n ≡ first r → y ≡ fetched s.cells l → x ≡ fetched s.cells c → i ≡ read_by s t f k r c l u
unfolding read_by
has_read s t f k r c l u x y n on i p q z w v = p ∙ λ j. seen (v j) (w j) u ((q ∙ ap (is_guarded (guards_of s.guards t)) z) j) t f k

pub has-judged : (r : Row) (fits : Bool) (c l a : Cell) (i : Seen) (e f : Effect) (w x y z : Bool) → f ≡ judge r w e → w ≡ both fits (both x (both y z)) → z ≡ in_range a.class 0 → y ≡ in_range l.class i.y → x ≡ in_range c.class i.x → a ≡ address e.also → f ≡ judged r fits c l i e
unfolding judged
has-judged r fits c l a i e f w x y z p q p3 p2 p1 p0 =
    p ∙ ap (λ (b : Bool). judge r b e) (q ∙ λ j. both fits (both (p1 j) (both (p2 j) ((p3 ∙ ap (λ (d : Cell). in_range d.class 0) p0) j))))

pub has_looked : (g : Settings) (s : State) (t : ℕ) (f : Bool) (k : ℕ) (r : Row) (c l : Cell) (u : ℕ) (fits : Bool) (i : Seen) (d e : Effect) → e ≡ judged r fits c l i d → d ≡ effect_of g r i → i ≡ read_by s t f k r c l u → fits ≡ row_fits g s.rows32 t → e ≡ look_by g s t f k r c l u
unfolding look_by
has_looked g s t f k r c l u fits i d e p q z w = p ∙ λ j. judged r (w j) c l (z j) ((q ∙ ap (effect_of g r) z) j)

pub looks : (g : Settings) (s : State) (t : ℕ) (f : Bool) (k : ℕ) (r : Row) (c l : Cell) (u : ℕ) (a : Access) (n : Named) (e : Effect) → e ≡ look_by g s t f k r c l u → l ≡ address n → n ≡ follow_of r u → c ≡ accessed a → a ≡ access_of r → u ≡ untaken_for s.cells.records r.place → e ≡ look_of g s t f k r
unfolding look_of
looks g s t f k r c l u a n e p l1 l2 c1 c2 q =
    p
    ∙ (λ j. look_by g s t f k r ((c1 ∙ ap accessed c2) j) ((l1 ∙ ap address l2) j) u)
    ∙ ap (λ (v : ℕ). look_by g s t f k r (accessed (access_of r)) (address (follow_of r v)) v) q

-- the tables after a step, put together: the shared cells, then the row, then the guarded set
pub gave : (i n m w g : List ℕ) (t : ℕ) (c : Cell) (e : Effect) (i₁ n₁ m₁ w₁ i' w' g' : List ℕ) → lent i₁ n₁ m₁ w₁ [] ≡ on_cells (λ x. cells_given x c e) (lent i n m w []) → ((n m g : List ℕ) → lent i' n m w' g ≡ with_row t e.row (lent i₁ n m w₁ g)) → g' ≡ guards_given g t e.guards → lent i' n₁ m₁ w' g' ≡ given (lent i n m w g) t c e
unfolding lent with_row given
gave i n m w g t c e i₁ n₁ m₁ w₁ i' w' g' p q z = q n₁ m₁ g' ∙ λ j. with_row t e.row (state (p j).cells (p j).rows32 (p j).rows64 (z j))

module _ (g : Settings) (s : State) (t : ℕ) (f : Bool) (k : ℕ) where
  module _ (r : Row) (e : Effect) (p : e ≡ look_of g s t f k r) (q : r ≡ row_at s.rows32 s.rows64 t) where
    abbrev take_out : Row → Out
    take_out x = take_by s t (accessed (access_of x)) (look_of g s t f k x)

    pub take_29 : e.number ≡ 29 → refused 29 s ≡ take_of g s t f k
    unfolding take_of
    take_29 h = is_yes (refused 29 s) (eqb e.number 29) _ (out (answer e.number e.value) (given s t (accessed (access_of r)) e)) (eq-eqb _ _ h) refl ∙ ap (take_by s t (accessed (access_of r))) p ∙ ap take_out q

    pub take-goes : (c : Cell) (a : Access) (s' : State) → c ≡ accessed a → a ≡ access_of r → (e.number ≡ 29 → ⊥) → s' ≡ given s t c e → out (answer e.number e.value) s' ≡ take_of g s t f k
    unfolding take_of
    take-goes c a s' u v h z =
        is_no (out (answer e.number e.value) s') (eqb e.number 29) (refused 29 s) (out (answer e.number e.value) (given s t c e)) (ne_eqb _ _ h) (ap (out (answer e.number e.value)) z)
        ∙ (λ i. take_by s t ((u ∙ ap accessed v) i) (p i))
        ∙ ap take_out q

  module _ (n m : ℕ) (p : n ≡ get_or s.cells.counters 4 0) (q : m ≡ get_or s.rows32 (t * row32) 0) where
    abbrev by : ℕ → ℕ → Out
    by n m = pick (leb steps n) (refused 19 s) (pick (eqb m 0) (refused 21 s) (take_of g s t f k))

    stepped : by n m ≡ step_in g s t f k
    unfolding step_in
    stepped = λ i. by (p i) (q i)

    pub step_19 : steps ≤ n → refused 19 s ≡ step_in g s t f k
    step_19 h = sym (pick_yes _ _ _ (le-leb _ _ h)) ∙ stepped

    pub step_21 : n < steps → m ≡ 0 → refused 21 s ≡ step_in g s t f k
    step_21 h z = sym (pick_no _ _ _ (lt-leb _ _ h) ∙ pick_yes _ _ _ (eq-eqb _ _ z)) ∙ stepped

    pub step-goes : n < steps → (m ≡ 0 → ⊥) → (o : Out) → o ≡ take_of g s t f k → o ≡ step_in g s t f k
    step-goes h z o e = e ∙ sym (pick_no _ _ _ (lt-leb _ _ h) ∙ pick_no _ _ _ (ne_eqb _ _ z)) ∙ stepped

-- ---- the sizes, which every start and step tests first: those of the parts are those of the tables
abbrev pub sizes_by : ℕ → ℕ → ℕ → ℕ → ℕ → Bool
sizes_by i n m w g = both (eqb i 4507) (both (eqb n nodes) (both (eqb m nodes) (both (eqb w 85) (eqb g 1024))))

one : (a b : Bool) → (a ≡ true → b ≡ true) → (b ≡ true → a ≡ true) → a ≡ b
one true b f g = sym (f refl)
one false true f g = g refl
one false false f g = refl

both-on : {a b : Bool} → a ≡ true → b ≡ true → both a b ≡ true
both-on p q = rw p q

five : (i n m w g : ℕ) → sizes_by i n m w g ≡ true → (i ≡ 4507) × (n ≡ nodes) × (m ≡ nodes) × (w ≡ 85) × (g ≡ 1024)
five i n m w g h =
    let a = is-both (eqb i 4507) (both (eqb n nodes) (both (eqb m nodes) (both (eqb w 85) (eqb g 1024)))) h in
    let b = is-both (eqb n nodes) (both (eqb m nodes) (both (eqb w 85) (eqb g 1024))) a.1 in
    let c = is-both (eqb m nodes) (both (eqb w 85) (eqb g 1024)) b.1 in
    let d = is-both (eqb w 85) (eqb g 1024) c.1 in
    (eqb-true i 4507 a.0, eqb-true n nodes b.0, eqb-true m nodes c.0, eqb-true w 85 d.0, eqb-true g 1024 d.1)

module _ (i n m w g : List ℕ) where
  part-long : (k : ℕ) (l : List ℕ) (from : ℕ) → from + k ≤ length l → length (part from k l) ≡ k
  unfolding part
  part-long k l from q = length-take k (drop from l) ∙ ap (min k) (length-drop from l) ∙ omega arith

  parts_sized : (length i ≡ 4507) × (length n ≡ nodes) × (length m ≡ nodes) × (length w ≡ 85) × (length g ≡ 1024) → sizes (lent i n m w g) ≡ true
  unfolding lent
  parts_sized h =
      let hi : length i ≡ 4507 = h.0 in
      let hw : length w ≡ 85 = h.3 in
      both-on (eq-eqb _ _ (part-long head_cells i 0 (omega arith)))
      (both-on (eq-eqb _ _ (part-long counter_cells w 0 (omega arith)))
      (both-on (eq-eqb _ _ (part-long (4 * records) i from_records (omega arith)))
      (both-on (eq-eqb _ _ (part-long sources i from_sources (omega arith)))
      (both-on (eq-eqb _ _ h.1) (both-on (eq-eqb _ _ h.2)
      (both-on (eq-eqb _ _ (length-drop from_rows i ∙ let z : length i - from_rows ≡ 336 = omega arith in z))
      (both-on (eq-eqb _ _ (length-drop counter_cells w ∙ let z : length w - counter_cells ≡ 80 = omega arith in z))
      (eq-eqb _ _ h.4))))))))

  -- the last parts have no end, so that their lengths tell that of the table
  tables_sized : sizes (lent i n m w g) ≡ true → sizes_by (length i) (length n) (length m) (length w) (length g) ≡ true
  unfolding lent
  tables_sized h =
      let a1 = is-both (eqb (length (part 0 head_cells i)) head_cells) _ h in
      let a2 = is-both (eqb (length (part 0 counter_cells w)) counter_cells) _ a1.1 in
      let a3 = is-both (eqb (length (part from_records (4 * records) i)) (4 * records)) _ a2.1 in
      let a4 = is-both (eqb (length (part from_sources sources i)) sources) _ a3.1 in
      let a5 = is-both (eqb (length n) nodes) _ a4.1 in
      let a6 = is-both (eqb (length m) nodes) _ a5.1 in
      let a7 = is-both (eqb (length (drop from_rows i)) 336) _ a6.1 in
      let a8 = is-both (eqb (length (drop counter_cells w)) 80) (eqb (length g) 1024) a7.1 in
      both-on (eq-eqb _ _ (past i from_rows 335 (eqb-true _ _ a7.0))) (both-on a5.0 (both-on a6.0 (both-on (eq-eqb _ _ (past w counter_cells 79 (eqb-true _ _ a8.0))) a8.1)))
    where
      past : (l : List ℕ) (from k : ℕ) → length (drop from l) ≡ suc k → length l ≡ from + suc k
      past l from k e = let q = length-drop from l in omega arith

  pub sized-lent : (ok : Bool) → ok ≡ sizes_by (length i) (length n) (length m) (length w) (length g) → ok ≡ sizes (lent i n m w g)
  sized-lent ok p = p ∙ one _ _ (λ h. parts_sized (five (length i) (length n) (length m) (length w) (length g) h)) tables_sized

  pub guards-sized : (ok : Bool) → ok ≡ sizes_by (length i) (length n) (length m) (length w) (length g) → ok ≡ true → length g ≡ 1024
  guards-sized ok p y = (five (length i) (length n) (length m) (length w) (length g) (sym p ∙ y)).4

-- 16, 17, or what a thread's own start or step gives
abbrev pub sized_by : State → Bool → ℕ → Out → Out
sized_by s ok t o = pick ok (pick (ltb t threads) o (refused 17 s)) (refused 16 s)

module _ (s : State) (t : ℕ) (ok : Bool) (o : Out) (p : ok ≡ sizes s) where
  pub sized_16 : ok ≡ false → refused 16 s ≡ sized_by s (sizes s) t o
  sized_16 h = sym (pick_no ok _ (refused 16 s) h) ∙ ap (λ (b : Bool). sized_by s b t o) p

  pub sized_17 : ok ≡ true → threads ≤ t → refused 17 s ≡ sized_by s (sizes s) t o
  sized_17 h l = sym (pick_yes ok _ (refused 16 s) h ∙ pick_no _ o _ (le-ltb _ _ l)) ∙ ap (λ (b : Bool). sized_by s b t o) p

  pub sized_on : ok ≡ true → t < threads → (a : Out) → a ≡ o → a ≡ sized_by s (sizes s) t o
  sized_on h l a e = e ∙ sym (pick_yes ok _ (refused 16 s) h ∙ pick_yes _ o (refused 17 s) (lt-ltb _ _ l)) ∙ ap (λ (b : Bool). sized_by s b t o) p

module _ (g : Settings) (s : State) (t : ℕ) (f : Bool) (k : ℕ) (ok : Bool) (p : ok ≡ sizes s) where
  pub step_16 : ok ≡ false → refused 16 s ≡ step_of g s t f k
  unfolding step_of
  step_16 h = sized_16 s t ok (step_in g s t f k) p h

  pub step_17 : ok ≡ true → threads ≤ t → refused 17 s ≡ step_of g s t f k
  unfolding step_of
  step_17 h l = sized_17 s t ok (step_in g s t f k) p h l

  pub step-on : ok ≡ true → t < threads → (o : Out) → o ≡ step_in g s t f k → o ≡ step_of g s t f k
  unfolding step_of
  step-on h l o e = sized_on s t ok (step_in g s t f k) p h l o e
