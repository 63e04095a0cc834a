-- Two labels are the same exactly when their spellings are.
use Rattle.std.specs.Prelude.{◌≡◌, refl, true, List, [], ◌∷◌, ◌++◌, ℕ, zero, suc, ◌+◌, ◌-◌, ◌<◌, ◌≤◌, leb, eqb, length, get_or, replicate}
use Rattle.std.proofs.Common.{ap, sym, ◌∙◌, arith, length-append, ext_get_or, leb-true, eqb-true, eq-eqb}
use Rattle.std.proofs.Math.Decide.{dec_lt}
use Rattle.std.proofs.lemmas.List.{length-replicate}
use Rattle.rules.specs.Fields as fields
use Rattle.rules.specs.Fields.{is_character, Chars, all_characters, is_label}
use Rattle.rules.specs.Record.{chars, label_of, same_label}
use Rattle.rules.specs.declared.Label.{Label}
use Rattle.laws.specs.Choices.{both_true}
use Rattle.laws.specs.Lists.{same_list_tells, same_list_self}
use Rattle.roundtrip.specs.Labels.{label_from_lem, chars_label}
use Rattle.line_rules.specs.Spellings.{half_of, spelling_of, same_spelling}
use Rattle.line_rules.specs.ToBase256.{base256_tells}
use Rattle.line_rules.specs.Finds.{truths_same}
use Rattle.line_rules.specs.declared.Spelling.{Spelling}

-- a label whose characters are a label's, with zeros after them
pub record Labelled (l : Label) : Type 0 where
  pub label : is_label (chars l) ≡ true
  pub padded : label_of (chars l) ≡ l

pub labelled : (cs : Chars) → is_label cs ≡ true → Labelled (label_of cs)
labelled cs e = record { label = ap is_label (chars_label cs) ∙ e; padded = ap label_of (chars_label cs) }

-- Characters and zeros.

zeros : ℕ → List ℕ
zeros n = replicate n 0

character_range : (c : ℕ) → is_character c ≡ true → (32 ≤ c) × (c ≤ 126)
character_range c e = let p = both_true (leb 32 c) (leb c 126) e in (leb-true 32 c p.0, leb-true c 126 p.1)

zero_at : (n i : ℕ) → get_or (zeros n) i 0 ≡ 0
unfolding zeros
zero_at zero i = refl
zero_at (suc n) zero = refl
zero_at (suc n) (suc i) = zero_at n i

padded_small : (cs : Chars) (n i : ℕ) → all_characters cs ≡ true → get_or (cs ++ zeros n) i 0 < 256
unfolding fields.all_characters
padded_small [] n i e = omega (arith, zero_at n i)
padded_small (c ∷ cs) n zero e = let r = character_range c (both_true (is_character c) (all_characters cs) e).0 in omega (arith, r.1)
padded_small (c ∷ cs) n (suc i) e = padded_small cs n i (both_true (is_character c) (all_characters cs) e).1

-- characters are told from what follows, as no character is 0
padded_tells : (cs ds : Chars) (n m : ℕ) → all_characters cs ≡ true → all_characters ds ≡ true → cs ++ zeros n ≡ ds ++ zeros m → cs ≡ ds
unfolding fields.all_characters
padded_tells [] [] n m a b e = refl
padded_tells [] (d ∷ ds) n m a b e =
    let r = character_range d (both_true (is_character d) (all_characters ds) b).0 in
    let z : get_or (zeros n) 0 0 ≡ d = ap (λ (l : List ℕ). get_or l 0 0) e in
    absurd (omega (arith, r.0, zero_at n 0))
padded_tells (c ∷ cs) [] n m a b e =
    let r = character_range c (both_true (is_character c) (all_characters cs) a).0 in
    let z : c ≡ get_or (zeros m) 0 0 = ap (λ (l : List ℕ). get_or l 0 0) e in
    absurd (omega (arith, r.0, zero_at m 0))
padded_tells (c ∷ cs) (d ∷ ds) n m a b e =
    let h : c ≡ d = cc in
    let t : cs ++ zeros n ≡ ds ++ zeros m = cc in
    let k = padded_tells cs ds n m (both_true (is_character c) (all_characters cs) a).1 (both_true (is_character d) (all_characters ds) b).1 t in
    cc

-- Spellings.

pub same_spelling_tells : (a b : Spelling) → same_spelling a b ≡ true → a ≡ b
same_spelling_tells a b e =
    let p = both_true (eqb a.lo b.lo) (eqb a.hi b.hi) e in
    rw (← (eqb-true a.lo b.lo p.0), ← (eqb-true a.hi b.hi p.1))

pub same_spelling_self : (a : Spelling) → same_spelling a a ≡ true
same_spelling_self a = rw (eq-eqb a.lo a.lo refl, eq-eqb a.hi a.hi refl)

-- sixteen bytes are told by their two halves
halves_tell : (xs ys : List ℕ) → length xs ≡ 16 → length ys ≡ 16 → ((i : ℕ) → get_or xs i 0 < 256) → ((i : ℕ) → get_or ys i 0 < 256)
    → half_of xs 0 ≡ half_of ys 0 → half_of xs 8 ≡ half_of ys 8 → xs ≡ ys
halves_tell xs ys n m a b lo hi = ext_get_or 0 xs ys (omega arith) (λ i l. elim (dec_lt i 8) [
  | yes h ↦ (let k : 0 + i ≡ i = omega arith in rw k at (half 0 lo i h))
  | no h ↦ (let k : 8 + (i - 8) ≡ i = omega arith in rw k at (half 8 hi (i - 8) (omega arith)))
])
  where
    half : (from : ℕ) → half_of xs from ≡ half_of ys from → (i : ℕ) → i < 8 → get_or xs (from + i) 0 ≡ get_or ys (from + i) 0
    half from e = base256_tells (λ i. get_or xs (from + i) 0) (λ i. get_or ys (from + i) 0) 8 (λ i l. a (from + i)) (λ i l. b (from + i)) e

padded_length : (cs : Chars) → length cs ≤ 16 → length (cs ++ zeros (16 - length cs)) ≡ 16
unfolding zeros
padded_length cs h = length-append cs (zeros (16 - length cs)) ∙ simp length-replicate (omega arith)

chars_told : (cs ds : Chars) → is_label cs ≡ true → is_label ds ≡ true → spelling_of (label_of cs) ≡ spelling_of (label_of ds) → cs ≡ ds
unfolding zeros
chars_told cs ds a b e =
    let p = label_from_lem cs a in
    let q = label_from_lem ds b in
    padded_tells cs ds (16 - length cs) (16 - length ds) p.all q.all
    (halves_tell (cs ++ zeros (16 - length cs)) (ds ++ zeros (16 - length ds))
    (padded_length cs (leb-true (length cs) 16 p.few)) (padded_length ds (leb-true (length ds) 16 q.few))
    (λ i. padded_small cs (16 - length cs) i p.all) (λ i. padded_small ds (16 - length ds) i q.all)
    (ap (λ (k : Spelling). k.lo) e) (ap (λ (k : Spelling). k.hi) e))

-- the same characters exactly where the spelling is the same
pub spelling_tells : (a b : Label) → Labelled a → Labelled b → same_label a b ≡ same_spelling (spelling_of a) (spelling_of b)
spelling_tells a b p q =
    truths_same (same_label a b) (same_spelling (spelling_of a) (spelling_of b))
    (λ e.
    let c : a ≡ b = sym p.padded ∙ ap label_of (same_list_tells (chars a) (chars b) e) ∙ q.padded in
    rw c (same_spelling_self (spelling_of b)))
    (λ e.
    let k = ap spelling_of p.padded ∙ same_spelling_tells (spelling_of a) (spelling_of b) e ∙ ap spelling_of (sym q.padded) in
    rw (chars_told (chars a) (chars b) p.label q.label k) (same_list_self (chars b)))

pub labels_spellings : (cs ds : Chars) → is_label cs ≡ true → is_label ds ≡ true → same_label (label_of cs) (label_of ds) ≡ same_spelling (spelling_of (label_of cs)) (spelling_of (label_of ds))
labels_spellings cs ds a b = spelling_tells (label_of cs) (label_of ds) (labelled cs a) (labelled ds b)
