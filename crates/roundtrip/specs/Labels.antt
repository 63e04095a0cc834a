-- Labels are equal exactly when their bytes are; a written label is read, and a label that is read was written.
--     bytes_equal      escape cs ≡ escape ds exactly when cs ≡ ds
--     labels_equal     the test of sameness tells just that
--     label_read       where a label stands between its quotes, it is read
--     label_stood      where a label is read, it stands
use Rattle.std.specs.Prelude.{◌≡◌, refl, ◌↔◌, Bool, ◌&&◌, ◌||◌, List, [], ◌∷◌, ◌++◌, leb, eqb, replicate}
use Rattle.std.proofs.Math.Path.{ap}
use Rattle.std.proofs.Common.{sym, ◌∙◌, length-append, eqb-true, leb-true}
use Rattle.std.proofs.Math.Bool.{true, false}
use Rattle.std.proofs.Math.Option.{none, some}
use Prim.Native.Nat.{ℕ, suc, ◌+◌, ◌-◌, ◌<◌, ◌≤◌}
use native.Mathlib.Omega.{arith}
use Rattle.std.proofs.Math.ListN.{length}
use Rattle.std.proofs.Math.Seq.{take-append_seam}
use Rattle.rules.specs.Words.{when◌then◌else◌}
use Rattle.rules.specs.Fields as fields
use Rattle.rules.specs.Fields.{is_character, is_escaped, escape, unescape, closed, closing, label_end, Chars, all_characters, is_label}
use Rattle.rules.specs.Record.{chars, label_of, same_label}
use Rattle.laws.specs.Choices.{both_true, either_false, none_not_some, some_passed}
use Rattle.laws.specs.Lists.{same_list_tells, same_list_self}

-- Labels are equal exactly when their bytes are.

pub unescape_escape : (cs : Chars) → unescape false (escape cs) ≡ cs
unfolding fields.escape fields.unescape
unescape_escape [] = refl
unescape_escape (c ∷ cs) = go (is_escaped c) refl (unescape_escape cs)
  where
    go : (p : Bool) → is_escaped c ≡ p → unescape false (escape cs) ≡ cs → unescape false (when p then 92 ∷ c ∷ escape cs else c ∷ escape cs) ≡ c ∷ cs
    go true e ih = ap (λ (l : Chars). c ∷ l) ih
    go false e ih = rw ((either_false (eqb c 34) (eqb c 92) e).1, ih)

pub bytes_equal : (cs ds : Chars) → (escape cs ≡ escape ds) ↔ (cs ≡ ds)
bytes_equal cs ds = (λ e. sym (unescape_escape cs) ∙ ap (unescape false) e ∙ unescape_escape ds, ap escape)

pub chars_label : (cs : Chars) → chars (label_of cs) ≡ cs
chars_label cs = take-append_seam cs (replicate (16 - length cs) 0)

-- the test of sameness tells just that
pub labels_equal : (cs ds : Chars) → (same_label (label_of cs) (label_of ds) ≡ true) ↔ (cs ≡ ds)
labels_equal cs ds = (
  λ e. sym (chars_label cs) ∙ same_list_tells (chars (label_of cs)) (chars (label_of ds)) e ∙ chars_label ds,
  λ e. rw e (same_list_self (chars (label_of ds))),
)

-- What a label is.

pub record Label (cs : Chars) : Type 0 where
  pub some : leb 1 (length cs) ≡ true
  pub few : leb (length cs) 16 ≡ true
  pub all : all_characters cs ≡ true

pub label_from_lem : (cs : Chars) → is_label cs ≡ true → Label cs
unfolding fields.is_label
label_from_lem cs e =
    let p = both_true (leb 1 (length cs) && leb (length cs) 16) (all_characters cs) e in
    let q = both_true (leb 1 (length cs)) (leb (length cs) 16) p.0 in
    record { some = q.0; few = q.1; all = p.1 }

-- it has bytes
pub label_some : (cs : Chars) → is_label cs ≡ true → 1 ≤ length (escape cs)
unfolding fields.escape
label_some [] e = absurd (omega (arith, leb-true 1 0 (label_from_lem [] e).some))
label_some (c ∷ cs) e = go (is_escaped c)
  where
    go : (b : Bool) → 1 ≤ length (when b then 92 ∷ c ∷ escape cs else c ∷ escape cs)
    go true = omega arith
    go false = omega arith

label_is : (cs : Chars) → Label cs → is_label cs ≡ true
unfolding fields.is_label
label_is cs l = rw (l.some, l.few) l.all

-- A written label is read.

closed_same : (n n' i i' : ℕ) → n ≡ n' → i ≡ i' → closed n i ≡ closed n' i'
closed_same n n' i i' p q = rw (p, q)

closing_escape : (cs rest : Chars) (n i : ℕ) → all_characters cs ≡ true
    → closing false n i (escape cs ++ (34 ∷ rest)) ≡ closed (n + length cs) (i + length (escape cs))
unfolding fields.closing fields.escape fields.all_characters
closing_escape [] rest n i a = closed_same n (n + 0) i (i + 0) (omega arith) (omega arith)
closing_escape (c ∷ cs) rest n i a =
    let p = both_true (is_character c) (all_characters cs) a in
    go p.0 (is_escaped c) refl (λ j. closing_escape cs rest (suc n) j p.1)
  where
    go : is_character c ≡ true → (p : Bool) → is_escaped c ≡ p
        → ((j : ℕ) → closing false (suc n) j (escape cs ++ (34 ∷ rest)) ≡ closed (suc n + length cs) (j + length (escape cs)))
        → closing false n i ((when p then 92 ∷ c ∷ escape cs else c ∷ escape cs) ++ (34 ∷ rest)) ≡ closed (n + suc (length cs)) (i + length (when p then 92 ∷ c ∷ escape cs else c ∷ escape cs))
    go k true e ih = rw e (ih (suc (suc i)) ∙ closed_same (suc n + length cs) (n + suc (length cs)) (suc (suc i) + length (escape cs)) (i + suc (suc (length (escape cs)))) (omega arith) (omega arith))
    go k false e ih =
        let f = either_false (eqb c 34) (eqb c 92) e in
        rw (f.0, f.1, k) (ih (suc i) ∙ closed_same (suc n + length cs) (n + suc (length cs)) (suc i + length (escape cs)) (i + suc (length (escape cs))) (omega arith) (omega arith))

pub label_read : (cs rest : Chars) → is_label cs ≡ true → label_end (34 ∷ escape cs ++ (34 ∷ rest)) ≡ some (1 + length (escape cs))
unfolding fields.label_end
label_read cs rest e =
    let l = label_from_lem cs e in
    let z : 0 + length cs ≡ length cs = omega arith in
    closing_escape cs rest 0 1 l.all ∙ rw (z, l.some, l.few)

-- A label that is read was written.

-- the bytes with the backslash that was read before them, and how many those are
abbrev lead : Bool → Chars → Chars
lead true l = 92 ∷ l
lead false l = l

abbrev ahead : Bool → ℕ
ahead true = 1
ahead false = 0

record Found (e : Bool) (n i : ℕ) (l : Chars) (z : ℕ) : Type 0 where
  cs : Chars
  rest : Chars
  text : lead e l ≡ escape cs ++ (34 ∷ rest)
  place : z + ahead e ≡ i + length (escape cs)
  some : leb 1 (n + length cs) ≡ true
  few : leb (n + length cs) 16 ≡ true
  all : all_characters cs ≡ true

-- a quote where the label closes
found_quote : (n i z : ℕ) (t : Chars) → closed n i ≡ some z → Found false n i (34 ∷ t) z
unfolding fields.escape fields.all_characters
found_quote n i z t e =
    let p = some_passed (leb 1 n && leb n 16) (some i) z e in
    let q = both_true (leb 1 n) (leb n 16) p.0 in
    let k : i ≡ z = let j = p.1 in cc in
    let m : n + 0 ≡ n = omega arith in
    record { cs = []; rest = t; text = refl; place = omega arith; some = rw m q.0; few = rw m q.1; all = refl }

-- a backslash, and what comes after it
found_backslash : (n i z : ℕ) (t : Chars) → Found true n (suc i) t z → Found false n i (92 ∷ t) z
found_backslash n i z t f =
    let k = f.place in
    record { cs = f.cs; rest = f.rest; text = f.text; place = omega arith; some = f.some; few = f.few; all = f.all }

-- a character, in the first case after its backslash
module _ (b n i z : ℕ) (t : Chars) where
  found_character : (p : Bool) → is_escaped b ≡ p → is_character b ≡ true → Found false (suc n) (suc i) t z → Found p n i (b ∷ t) z
  unfolding fields.escape fields.all_characters
  found_character p is k f =
      let m : n + suc (length f.cs) ≡ suc n + length f.cs = omega arith in
      record { cs = b ∷ f.cs; rest = f.rest; text = rw is (text_is p); place = rw is (place_is p); some = rw m f.some; few = rw m f.few; all = rw k f.all }
    where
      text_is : (p : Bool) → lead p (b ∷ t) ≡ (when p then 92 ∷ b ∷ escape f.cs else b ∷ escape f.cs) ++ (34 ∷ f.rest)
      text_is true = ap (λ (l : Chars). 92 ∷ b ∷ l) f.text
      text_is false = ap (λ (l : Chars). b ∷ l) f.text

      place_is : (p : Bool) → z + ahead p ≡ i + length (when p then 92 ∷ b ∷ escape f.cs else b ∷ escape f.cs)
      place_is true = omega (arith, f.place)
      place_is false = omega (arith, f.place)

escaped_character : (b : ℕ) → is_escaped b ≡ true → is_character b ≡ true
escaped_character b e = go (eqb b 34) refl e
  where
    go : (p : Bool) → eqb b 34 ≡ p → (p || eqb b 92) ≡ true → is_character b ≡ true
    go true q e = rw (eqb-true b 34 q)
    go false q e = rw (eqb-true b 92 e)

found : (l : Chars) (e : Bool) (n i z : ℕ) → closing e n i l ≡ some z → Found e n i l z
unfolding fields.closing
found [] e n i z h = none_not_some z h
found (b ∷ t) true n i z h =
    let p = some_passed (is_escaped b) (closing false (suc n) (suc i) t) z h in
    found_character b n i z t true p.0 (escaped_character b p.0) (found t false (suc n) (suc i) z p.1)
found (b ∷ t) false n i z h = go (eqb b 34) refl (eqb b 92) refl h (found t true n (suc i) z) (found t false (suc n) (suc i) z)
  where
    go : (q : Bool) → eqb b 34 ≡ q → (s : Bool) → eqb b 92 ≡ s
        → (when q then closed n i else when s then closing true n (suc i) t else when is_character b then closing false (suc n) (suc i) t else none) ≡ some z
        → (closing true n (suc i) t ≡ some z → Found true n (suc i) t z) → (closing false (suc n) (suc i) t ≡ some z → Found false (suc n) (suc i) t z) → Found false n i (b ∷ t) z
    go true qe s se h opened plain = rw (eqb-true b 34 qe) (found_quote n i z t h)
    go false qe true se h opened plain = rw (eqb-true b 92 se) (found_backslash n i z t (opened h))
    go false qe false se h opened plain =
        let p = some_passed (is_character b) (closing false (suc n) (suc i) t) z h in
        found_character b n i z t false (rw (qe, se)) p.0 (plain p.1)

-- what stands where a label is read that closes at z
pub record Quoted (l : List ℕ) (z : ℕ) : Type 0 where
  pub cs : Chars
  pub rest : List ℕ
  pub text : l ≡ 34 ∷ escape cs ++ (34 ∷ rest)
  pub place : z ≡ 1 + length (escape cs)
  pub label : is_label cs ≡ true

pub label_stood : (l : List ℕ) (z : ℕ) → label_end l ≡ some z → Quoted l z
unfolding fields.label_end
label_stood [] z h = none_not_some z h
label_stood (b ∷ t) z h =
    let p = some_passed (eqb b 34) (closing false 0 1 t) z h in
    let f = found t false 0 1 z p.1 in
    let k : 0 + length f.cs ≡ length f.cs = omega arith in
    record {
      cs = f.cs;
      rest = f.rest;
      text = ap (λ (c : ℕ). c ∷ t) (eqb-true b 34 p.0) ∙ ap (λ (l : List ℕ). 34 ∷ l) f.text;
      place = omega (arith, f.place);
      label = label_is f.cs (record { some = rw k at f.some; few = rw k at f.few; all = f.all });
    }

-- a label ends within what it is read from
pub label_within : (l : List ℕ) (z : ℕ) → label_end l ≡ some z → z < length l
label_within l z h =
    let q = label_stood l z h in
    omega (arith, ap length q.text, length-append (escape q.cs) (34 ∷ q.rest), q.place)
