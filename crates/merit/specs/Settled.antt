-- Taking r units in order of merit, one at a time, has one outcome: the settled one, where every unit taken goes before every unit left.
-- Source i has the units 0, 1, .. below cap i, and its unit k has the price `key i k`; `better` orders the prices and `first` the sources, for
-- the ties. Unloading: better is dearer, first is earlier. Credit: cheaper, later.
use Rattle.std.specs.Prelude.{◌⊎◌, ◌≢◌, ◌≡◌, refl, ℕ, zero, suc, ◌+◌, ◌-◌, ◌≤◌, ◌<◌, eqb}
use Rattle.std.proofs.Common.{inl, inr, sym, ap, ◌∙◌, arith, eq-eqb, ne_eqb}
use Rattle.std.proofs.Math.Decide.{dec_lt, ℕ_discrete}
use Rattle.laws.specs.Sums.{sum_to_most, sum_to_exact, sum_to_zero, sum_to_but, less_somewhere}
use Rattle.merit.specs.Best.{Best, best_exists}
use Rattle.rules.specs.Words.{when◌then◌else◌, sum_to}

-- a strict order in which any two numbers compare
pub record Strict (R : ℕ → ℕ → Type 0) : Type 0 where
  pub asym : (a b : ℕ) → R a b → R b a → ⊥
  pub trans : (a b c : ℕ) → R a b → R b c → R a c
  pub tri : (a b : ℕ) → R a b ⊎ ((a ≡ b) ⊎ R b a)

abbrev pub Less : ℕ → ℕ → Type 0
Less a b = a < b

abbrev pub More : ℕ → ℕ → Type 0
More a b = b < a

pub less_strict : Strict Less
less_strict = record {
  asym = λ a b p q. omega arith;
  trans = λ a b c p q. omega arith;
  tri = λ a b. elim (dec_lt a b) [ yes l ↦ inl l | no l ↦ elim (dec_lt b a) [ yes m ↦ inr (inr m) | no m ↦ inr (inl (omega arith)) ] ];
}

pub more_strict : Strict More
more_strict = record {
  asym = λ a b p q. omega arith;
  trans = λ a b c p q. omega arith;
  tri = λ a b. elim (dec_lt b a) [ yes l ↦ inl l | no l ↦ elim (dec_lt a b) [ yes m ↦ inr (inr m) | no m ↦ inr (inl (omega arith)) ] ];
}

-- the unit of price p at source i goes before the unit of price q at another source j
abbrev pub Beats : (better first : ℕ → ℕ → Type 0) → ℕ → ℕ → ℕ → ℕ → Type 0
Beats better first i p j q = better p q ⊎ ((p ≡ q) × first i j)

module _ (better first : ℕ → ℕ → Type 0) (n : ℕ) (cap : ℕ → ℕ) (key : ℕ → ℕ → ℕ) where
  -- t i units of each source i are taken, and they go before what is left
  pub record Settled (t : ℕ → ℕ) : Type 0 where
    pub fits : (i : ℕ) → i < n → t i ≤ cap i
    pub order : (i j k l : ℕ) → i < n → j < n → i ≢ j → k < t i → t j ≤ l → l < cap j → Beats better first i (key i k) j (key j l)

  -- of the next units of the sources below m, that of `at` is the best
  abbrev pub BestUnit : (ℕ → ℕ) → ℕ → ℕ → Type 0
  BestUnit t = Best (λ j. t j < cap j) (λ i j. Beats better first i (key i (t i)) j (key j (t j)))

  -- the best of the next units is taken
  pub record Step (t t' : ℕ → ℕ) : Type 0 where
    pub at : ℕ
    pub best : BestUnit t n at
    pub moved : t' at ≡ suc (t at)
    pub kept : (j : ℕ) → j < n → j ≢ at → t' j ≡ t j

  -- one at a time, r times from nothing taken
  pub data Plain : ℕ → (ℕ → ℕ) → Type 0 where
    start : {t : ℕ → ℕ} → ((i : ℕ) → i < n → t i ≡ 0) → Plain 0 t
    step : {r : ℕ} {t t' : ℕ → ℕ} → Plain r t → Step t t' → Plain (suc r) t'

  -- within a source no later unit is better
  abbrev pub Falling : Type 0
  Falling = (i k l : ℕ) → i < n → k ≤ l → l < cap i → better (key i l) (key i k) → ⊥

-- t with one more at a place
abbrev pub bump : ℕ → (ℕ → ℕ) → ℕ → ℕ
bump at t i = when eqb i at then suc (t i) else t i

pub bump_same : (at : ℕ) (t : ℕ → ℕ) → bump at t at ≡ suc (t at)
bump_same at t = rw (eq-eqb at at refl)

pub bump_other : (at : ℕ) (t : ℕ → ℕ) (i : ℕ) → i ≢ at → bump at t i ≡ t i
bump_other at t i ne = rw (ne_eqb i at ne)

module _ (better first : ℕ → ℕ → Type 0) (B : Strict better) (F : Strict first) (n : ℕ) (cap : ℕ → ℕ) (key : ℕ → ℕ → ℕ) where
  beats_asym : (i p j q : ℕ) → Beats better first i p j q → Beats better first j q i p → ⊥
  beats_asym i p j q (inl a) (inl b) = B.asym p q a b
  beats_asym i p j q (inl a) (inr b) = B.asym p p (rw b.0 at a) (rw b.0 at a)
  beats_asym i p j q (inr a) (inl b) = B.asym q q (rw a.0 at b) (rw a.0 at b)
  beats_asym i p j q (inr a) (inr b) = F.asym i j a.1 b.1

  pub beats_trans : (i p j q k o : ℕ) → Beats better first i p j q → Beats better first j q k o → Beats better first i p k o
  beats_trans i p j q k o (inl a) (inl b) = inl (B.trans p q o a b)
  beats_trans i p j q k o (inl a) (inr b) = inl (rw b.0 at a)
  beats_trans i p j q k o (inr a) (inl b) = inl (rw a.0 b)
  beats_trans i p j q k o (inr a) (inr b) = inr (a.0 ∙ b.0, F.trans i j k a.1 b.1)

  beats_total : (i p j q : ℕ) → i ≢ j → Beats better first i p j q ⊎ Beats better first j q i p
  beats_total i p j q ne = go (B.tri p q) (F.tri i j)
    where
      go : better p q ⊎ ((p ≡ q) ⊎ better q p) → first i j ⊎ ((i ≡ j) ⊎ first j i) → Beats better first i p j q ⊎ Beats better first j q i p
      go (inl a) f = inl (inl a)
      go (inr (inr a)) f = inr (inl a)
      go (inr (inl e)) (inl f) = inl (inr (e, f))
      go (inr (inl e)) (inr (inl h)) = absurd (ne h)
      go (inr (inl e)) (inr (inr f)) = inr (inr (sym e, f))

  -- what a price beats, it beats at a price that is no better
  beats_later : (i p j q q' : ℕ) → Beats better first i p j q → (better q' q → ⊥) → Beats better first i p j q'
  beats_later i p j q q' b h = go b (B.tri q q')
    where
      go : Beats better first i p j q → better q q' ⊎ ((q ≡ q') ⊎ better q' q) → Beats better first i p j q'
      go (inl a) (inl c) = inl (B.trans p q q' a c)
      go (inl a) (inr (inl e)) = inl (rw e at a)
      go (inl a) (inr (inr c)) = absurd (h c)
      go (inr a) (inl c) = inl (rw a.0 c)
      go (inr a) (inr (inl e)) = inr (a.0 ∙ e, a.1)
      go (inr a) (inr (inr c)) = absurd (h c)

  -- two settled states with the same sum are the same
  pub settled_one : (t u : ℕ → ℕ) → Settled better first n cap key t → Settled better first n cap key u → sum_to t n ≡ sum_to u n → (i : ℕ) → i < n → t i ≡ u i
  settled_one t u st su e = elim (less_somewhere n t u) [
    | inr h ↦ (λ i l. sym (sum_to_exact n u t h (sym e) i l))
    | inl f ↦ elim (less_somewhere n u t) [
      | inr h ↦ sum_to_exact n t u h e
      | inl g ↦ (
          let i = f.0 in
          let j = g.0 in
          let ne : i ≢ j = λ h. omega (arith, f.2, g.2, ap t h, ap u h) in
          absurd (beats_asym j (key j (u j)) i (key i (t i))
          (st.order j i (u j) (t i) g.1 f.1 (λ h. ne (sym h)) g.2 (omega arith) (omega (arith, f.2, su.fits i f.1)))
          (su.order i j (t i) (u j) f.1 g.1 ne f.2 (omega arith) (omega (arith, g.2, st.fits j g.1)))))
    ]
  ]

  -- the best source gives a block of units of one price at once
  pub settled_block : Falling better first n cap key → (t t' : ℕ → ℕ) (a g : ℕ) → Settled better first n cap key t → BestUnit better first n cap key t n a → t a + g ≤ cap a
      → ((k : ℕ) → t a ≤ k → k < t a + g → key a k ≡ key a (t a)) → t' a ≡ t a + g → ((j : ℕ) → j < n → j ≢ a → t' j ≡ t j) → Settled better first n cap key t'
  settled_block fall t t' a g s b room flat moved kept = record {
    fits = λ i l. elim (ℕ_discrete i a) [
      | yes e ↦ omega (arith, ap t' e, ap cap e)
      | no e ↦ omega (arith, kept i l e, s.fits i l)
    ];
    order = λ i j k l li lj ne kt tl lc. elim (dec_lt k (t i)) [
      | yes m ↦ s.order i j k l li lj ne m (omega (arith, grow j lj)) lc
      | no m ↦ elim (ℕ_discrete i a) [
        | no d ↦ absurd (omega (arith, kept i li d))
        | yes e ↦ (
            let d : j ≢ a = λ h. ne (e ∙ sym h) in
            let same : key i k ≡ key a (t a) = ap (λ x. key x k) e ∙ flat k (omega (arith, ap t e)) (omega (arith, ap t' e)) in
            let tj = kept j lj d in
            rw (same, e) (beats_later a (key a (t a)) j (key j (t j)) (key j l)
            (b.wins j lj d (omega arith)) (fall j (t j) l lj (omega arith) lc)))
      ]
    ];
  }
    where
      grow : (j : ℕ) → j < n → t j ≤ t' j
      grow j l = elim (ℕ_discrete j a) [
        | yes e ↦ omega (arith, ap t e, ap t' e)
        | no e ↦ omega (arith, kept j l e)
      ]

  -- one at a time settles: a step is a block of one unit
  pub plain_settled : Falling better first n cap key → {r : ℕ} {t : ℕ → ℕ} → Plain better first n cap key r t → Settled better first n cap key t
  plain_settled fall (start h) = record { fits = λ i l. omega (arith, h i l); order = λ i j k l a b c d e f. absurd (omega (arith, h i a)) }
  plain_settled fall (step {t = t} {t' = t'} p st) =
      settled_block fall t t' st.at 1 (plain_settled fall p) st.best (omega (arith, st.best.room))
      (λ k l m. ap (key st.at) (omega arith)) (omega (arith, st.moved)) st.kept

  pub plain_sum : {r : ℕ} {t : ℕ → ℕ} → Plain better first n cap key r t → sum_to t n ≡ r
  plain_sum (start {t = t} h) = sum_to_zero n t h
  plain_sum (step {t = t} {t' = t'} p st) = omega (arith, sum_to_but n t t' st.at st.best.in_range st.kept, st.moved, plain_sum p)

  -- it goes on while there is room
  pub plain_exists : (r : ℕ) → r ≤ sum_to cap n → (t : ℕ → ℕ) × Plain better first n cap key r t
  plain_exists zero h = (λ i. 0, start (λ i l. refl))
  plain_exists (suc r) h = go (plain_exists r (omega arith))
    where
      go : (t : ℕ → ℕ) × Plain better first n cap key r t → (t : ℕ → ℕ) × Plain better first n cap key (suc r) t
      go (t, p) = elim (best_exists (λ j. t j < cap j) (λ i j. Beats better first i (key i (t i)) j (key j (t j)))
          (λ i j k. beats_trans i (key i (t i)) j (key j (t j)) k (key k (t k))) (λ i j. beats_total i (key i (t i)) j (key j (t j))) (λ i. dec_lt (t i) (cap i)) n) [
            | inl full ↦ absurd (omega (arith, sum_to_most n cap t (λ i l. omega (arith, full i l)), plain_sum p))
            | inr b ↦ (
              bump b.0 t,
              step p (record { at = b.0; best = b.1; moved = bump_same b.0 t; kept = λ j l ne. bump_other b.0 t j ne }),
            )
          ]

  -- only what t is below n counts
  plain_same_below : {r : ℕ} {t : ℕ → ℕ} (u : ℕ → ℕ) → Plain better first n cap key r t → ((i : ℕ) → i < n → t i ≡ u i) → Plain better first n cap key r u
  plain_same_below u (start z) h = start (λ i l. sym (h i l) ∙ z i l)
  plain_same_below u (step p st) h = step p (record {
    at = st.at;
    best = st.best;
    moved = sym (h st.at st.best.in_range) ∙ st.moved;
    kept = λ j l ne. sym (h j l) ∙ st.kept j l ne;
  })

  -- what is settled is what one at a time gives
  pub settled_plain : Falling better first n cap key → (r : ℕ) (u : ℕ → ℕ) → Settled better first n cap key u → sum_to u n ≡ r → Plain better first n cap key r u
  settled_plain fall r u s e = go (plain_exists r (omega (arith, sum_to_most n u cap s.fits)))
    where
      go : (t : ℕ → ℕ) × Plain better first n cap key r t → Plain better first n cap key r u
      go (t, p) = plain_same_below u p (settled_one t u (plain_settled fall p) s (plain_sum p ∙ sym e))

  -- two outcomes are the same
  pub plain_same : Falling better first n cap key → {r : ℕ} {t u : ℕ → ℕ} → Plain better first n cap key r t → Plain better first n cap key r u → (i : ℕ) → i < n → t i ≡ u i
  plain_same fall {r} {t} {u} p q = settled_one t u (plain_settled fall p) (plain_settled fall q) (plain_sum p ∙ sym (plain_sum q))

-- The prices may be put otherwise, if what goes before what stays the same for the units that there are.
module _ (better better' first : ℕ → ℕ → Type 0) (n : ℕ) (cap : ℕ → ℕ) (key key' : ℕ → ℕ → ℕ)
    (turn : (i k j l : ℕ) → i < n → k < cap i → j < n → l < cap j → Beats better first i (key i k) j (key j l) → Beats better' first i (key' i k) j (key' j l)) where
  pub settled_turn : {t : ℕ → ℕ} → Settled better first n cap key t → Settled better' first n cap key' t
  settled_turn s = record {
    fits = s.fits;
    order = λ i j k l hi hj ne a b c. turn i k j l hi (omega (arith, s.fits i hi)) hj c (s.order i j k l hi hj ne a b c);
  }

  pub plain_turn : {r : ℕ} {t : ℕ → ℕ} → Plain better first n cap key r t → Plain better' first n cap key' r t
  plain_turn (start z) = start z
  plain_turn (step {t = t} p st) =
      let b = st.best in
      step (plain_turn p) (record {
        at = st.at;
        best = record {
          in_range = b.in_range;
          room = b.room;
          wins = λ j l ne r. turn st.at (t st.at) j (t j) b.in_range b.room l r (b.wins j l ne r);
        };
        moved = st.moved;
        kept = st.kept;
      })

-- the same prices
module _ (better first : ℕ → ℕ → Type 0) (n : ℕ) (cap : ℕ → ℕ) (key key' : ℕ → ℕ → ℕ) (h : (i k : ℕ) → i < n → k < cap i → key i k ≡ key' i k) where
  beats_key : (i k j l : ℕ) → i < n → k < cap i → j < n → l < cap j → Beats better first i (key i k) j (key j l) → Beats better first i (key' i k) j (key' j l)
  beats_key i k j l a b c d x = rw (← h i k a b, ← h j l c d) x

  pub settled_key : {t : ℕ → ℕ} → Settled better first n cap key t → Settled better first n cap key' t
  settled_key = settled_turn better better first n cap key key' beats_key

  pub plain_key : {r : ℕ} {t : ℕ → ℕ} → Plain better first n cap key r t → Plain better first n cap key' r t
  plain_key = plain_turn better better first n cap key key' beats_key

-- the cheapest first is the dearest first at the prices' distance from a top
module _ (first : ℕ → ℕ → Type 0) (n : ℕ) (cap : ℕ → ℕ) (key : ℕ → ℕ → ℕ) (top : ℕ) (h : (i k : ℕ) → i < n → k < cap i → key i k ≤ top) where
  beats_flip : (i p j q : ℕ) → p ≤ top → q ≤ top → Beats More first i (top - p) j (top - q) → Beats Less first i p j q
  beats_flip i p j q hp hq (inl a) = inl (omega arith)
  beats_flip i p j q hp hq (inr a) = inr (omega (arith, a.0), a.1)

  flip : (i k j l : ℕ) → i < n → k < cap i → j < n → l < cap j → Beats More first i (top - key i k) j (top - key j l) → Beats Less first i (key i k) j (key j l)
  flip i k j l a b c d = beats_flip i (key i k) j (key j l) (h i k a b) (h j l c d)

  pub settled_flip : {t : ℕ → ℕ} → Settled More first n cap (λ i k. top - key i k) t → Settled Less first n cap key t
  settled_flip = settled_turn More Less first n cap (λ i k. top - key i k) key flip

  pub plain_flip : {r : ℕ} {t : ℕ → ℕ} → Plain More first n cap (λ i k. top - key i k) r t → Plain Less first n cap key r t
  plain_flip = plain_turn More Less first n cap (λ i k. top - key i k) key flip
