-- The steps of reading a label's characters.
use Rattle.std.specs.Prelude.{Some, None}
use mathlib.Core.Path.{◌≡◌, refl, ap, sym, ◌∙◌}
use mathlib.Core.Bool.{Bool, true, false, ◌&&◌}
use mathlib.Core.List.{List, [], ◌∷◌, ◌++◌, append-nil}
use Prim.Native.Nat.{ℕ, suc, ◌+◌, ◌<◌, ◌≤◌}
use native.Mathlib.Numerals.{add-one}
use native.Mathlib.Omega.{arith}
use lib.Dec.{leb, eqb}
use lib.ListN.{length, take, drop, length-take, length-append}
use borrow.Author.Tests.{leb-true, ne_eqb, le-leb, lt-leb}
use Rattle.rules.specs.Words.{when◌then◌else◌}
use Rattle.rules.specs.Fields as fields
use Rattle.rules.specs.Fields.{Field, got, malformed, byte, is_character, all_characters, is_label, Chars}
use Rattle.rules.specs.Spreadsheet as spreadsheet
use Rattle.rules.specs.Spreadsheet.{pushed, quoted}
use Rattle.laws.specs.Choices.{both_true, malformed_not_got}
use Rattle.laws.specs.Lists.{get_d_first}
use Rattle.read_fields.proofs.Bytes.{drop_byte}
use Rattle.read_records.specs.Answers.{character_then, judged}
use Rattle.read_records.proofs.Lists.{prefixed}

-- One character.

pub character_inside : (b : ℕ) → is_character b ≡ true → 0 < b
character_inside b e = omega (arith, leb-true 32 b (both_true (leb 32 b) (leb b 126) e).0)

module _ (s : List ℕ) (at : ℕ) where
  module _ (plain : byte s at ≡ 34 → ⊥) where
    pub quoted_none : is_character (byte s at) ≡ false → malformed ≡ quoted false at (drop at s)
    unfolding spreadsheet.quoted
    quoted_none k = go (drop at s) refl
      where
        go : (l : List ℕ) → drop at s ≡ l → malformed ≡ quoted false at l
        go [] w = refl
        go (b ∷ t) w =
            let same : byte s at ≡ b = get_d_first s (b ∷ t) at 0 w in
            rw (ne_eqb b 34 (λ e. plain (same ∙ e)), sym (ap is_character same) ∙ k)

    pub quoted_plain : is_character (byte s at) ≡ true → pushed (byte s at) (quoted false (at + 1) (drop (at + 1) s)) ≡ quoted false at (drop at s)
    unfolding spreadsheet.quoted
    quoted_plain k = rw (drop_byte s at (character_inside (byte s at) k), ne_eqb (byte s at) 34 plain, k, add-one at)

  module _ (quote : byte s at ≡ 34) where
    after_quote : quoted true (at + 1) (drop (at + 1) s) ≡ quoted false at (drop at s)
    unfolding spreadsheet.quoted
    after_quote = rw (drop_byte s at (omega arith), quote, add-one at)

    pub quoted_closed : (byte s (at + 1) ≡ 34 → ⊥) → got [] (at + 1) ≡ quoted false at (drop at s)
    unfolding spreadsheet.quoted
    quoted_closed k = go (drop (at + 1) s) refl ∙ after_quote
      where
        go : (l : List ℕ) → drop (at + 1) s ≡ l → got [] (at + 1) ≡ quoted true (at + 1) l
        go [] w = refl
        go (b ∷ t) w = rw (ne_eqb b 34 (λ e. k (get_d_first s (b ∷ t) (at + 1) 0 w ∙ e)))

    pub quoted_doubled : byte s (at + 1) ≡ 34 → pushed 34 (quoted false (at + 2) (drop (at + 2) s)) ≡ quoted false at (drop at s)
    unfolding spreadsheet.quoted
    quoted_doubled k =
        let two : at + 2 ≡ at + 1 + 1 = omega arith in
        rw (two, ← after_quote, drop_byte s (at + 1) (omega arith), k, add-one (at + 1))

-- All of them.

-- what is read between the quotes is characters
quoted_characters : (e : Bool) (i : ℕ) (l : List ℕ) (cs : Chars) (q : ℕ) → quoted e i l ≡ got cs q → all_characters cs ≡ true
unfolding spreadsheet.quoted fields.all_characters
quoted_characters false i [] cs q e = malformed_not_got cs q e
quoted_characters true i [] cs q e = let k : [] ≡ cs = cc in rw (sym k)
quoted_characters false i (b ∷ t) cs q e = go (eqb b 34) (is_character b) refl e (quoted_characters true (suc i) t cs q) (quoted_characters false (suc i) t)
  where
    go : (p k : Bool) → is_character b ≡ k → (when p then quoted true (suc i) t else when k then pushed b (quoted false (suc i) t) else malformed) ≡ got cs q
        → (quoted true (suc i) t ≡ got cs q → all_characters cs ≡ true)
        → ((ds : Chars) (q : ℕ) → quoted false (suc i) t ≡ got ds q → all_characters ds ≡ true) → all_characters cs ≡ true
    go true k ke e closing more = closing e
    go false true ke e closing more = next (quoted false (suc i) t) refl e
      where
        next : (f : Field Chars) → quoted false (suc i) t ≡ f → pushed b f ≡ got cs q → all_characters cs ≡ true
        next (got ds n) fe e = let k : b ∷ ds ≡ cs = cc in rw (← k, ke) (more ds n fe)
        next malformed fe e = malformed_not_got cs q e
    go false false ke e closing more = malformed_not_got cs q e
quoted_characters true i (b ∷ t) cs q e = go (eqb b 34) e (quoted_characters false (suc i) t)
  where
    go : (p : Bool) → (when p then pushed 34 (quoted false (suc i) t) else got [] i) ≡ got cs q
        → ((ds : Chars) (q : ℕ) → quoted false (suc i) t ≡ got ds q → all_characters ds ≡ true) → all_characters cs ≡ true
    go true e more = next (quoted false (suc i) t) refl e
      where
        next : (f : Field Chars) → quoted false (suc i) t ≡ f → pushed 34 f ≡ got cs q → all_characters cs ≡ true
        next (got ds n) fe e = let k : 34 ∷ ds ≡ cs = cc in rw (← k) (more ds n fe)
        next malformed fe e = malformed_not_got cs q e
    go false e more = let k : [] ≡ cs = cc in rw (← k)

pushed_first : (c : ℕ) (f : Field Chars) → pushed c f ≡ prefixed (c ∷ []) f
pushed_first c (got cs next) = refl
pushed_first c malformed = refl

label_sized : (cs : Chars) → length cs ≤ 16 → all_characters cs ≡ true → is_label cs ≡ leb 1 (length cs)
unfolding fields.is_label
label_sized cs few all = rw (le-leb (length cs) 16 few, all) (go (leb 1 (length cs)))
  where
    go : (b : Bool) → (b && true && true) ≡ b
    go true = refl
    go false = refl

label_long : (cs : Chars) → 16 < length cs → is_label cs ≡ false
unfolding fields.is_label
label_long cs long = rw (le-leb 1 (length cs) (omega arith), lt-leb (length cs) 16 long)

-- after n characters, stored in an array, with those from the place p on to come
module _ (s : List ℕ) (at : ℕ) (bytes : List ℕ) (n p : ℕ) (size : length bytes ≡ 16) (few : n ≤ 16)
    (so_far : prefixed (take n bytes) (quoted false p (drop p s)) ≡ quoted false at (drop at s)) where
  stored : length (take n bytes) ≡ n
  stored = length-take n bytes ∙ omega arith

  closed : (next : ℕ) → character_then s (Some (None, next)) ≡ quoted false p (drop p s)
      → (when leb 1 n then got (take n bytes) next else malformed) ≡ judged (quoted false at (drop at s))
  closed next e =
      let whole : quoted false at (drop at s) ≡ got (take n bytes) next = sym so_far ∙ ap (prefixed (take n bytes)) (sym e) ∙ rw append-nil in
      let test : is_label (take n bytes) ≡ leb 1 n = label_sized (take n bytes) (omega (arith, stored)) (quoted_characters false at (drop at s) (take n bytes) next whole) ∙ ap (leb 1) stored in
      rw (whole, test)

  pub label_empty : (next : ℕ) → character_then s (Some (None, next)) ≡ quoted false p (drop p s) → n ≡ 0 → malformed ≡ judged (quoted false at (drop at s))
  label_empty next e z = ap (λ (n : ℕ). when leb 1 n then got (take n bytes) next else malformed) (sym z) ∙ closed next e

  pub label_closed : (next : ℕ) → character_then s (Some (None, next)) ≡ quoted false p (drop p s) → (n ≡ 0 → ⊥) → got (take n bytes) next ≡ judged (quoted false at (drop at s))
  label_closed next e z = rw (le-leb 1 n (omega (arith, z))) at (closed next e)

  pub label_full : (c next : ℕ) → 16 ≤ n → character_then s (Some (Some c, next)) ≡ quoted false p (drop p s) → malformed ≡ judged (quoted false at (drop at s))
  label_full c next full e = go (quoted false next (drop next s)) ∙ ap judged (ap (prefixed (take n bytes)) e ∙ so_far)
    where
      go : (f : Field Chars) → malformed ≡ judged (prefixed (take n bytes) (pushed c f))
      go (got cs q) = rw (label_long (take n bytes ++ (c ∷ cs)) (omega (arith, length-append (take n bytes) (c ∷ cs), stored)))
      go malformed = refl
