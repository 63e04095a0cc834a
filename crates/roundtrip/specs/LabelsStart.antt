-- Where the lines of a deck and their first labels start.
--     next_starts      a line that is read ends with its first LF, so that the next one starts past it
--     label_starts     its first quote opens its first label
use Rattle.std.specs.Prelude.{◌≡◌, Bool, true, false, ◌&&◌, ℕ, zero, suc, ◌+◌, ◌/◌, ◌%◌, ◌<◌, ◌≤◌, leb, ltb, eqb}
use Rattle.std.proofs.Math.Path.{refl, ap, sym}
use Rattle.std.proofs.Common.{◌∙◌, eq-eqb, ne_eqb, leb-true, length-drop, drop-drop}
use mathlib.Core.List.{List, [], ◌∷◌, ◌++◌}
use Rattle.std.proofs.Math.Option.{Option, none, some}
use native.Mathlib.Omega.{arith}
use Rattle.std.proofs.Math.ListN.{length, drop}
use Rattle.rules.specs.Words.{when◌then◌else◌}
use Rattle.rules.specs.Ranges.{Range, inside}
use Rattle.rules.specs.Fields as fields
use Rattle.rules.specs.Fields.{Field, got, on_field, byte, byte_at, digits_in, digits, basis_text, number_at, basis_at, is_escaped, escape, all_characters, is_label, label_end, label_from, Chars, Place, spaced_number, spaced_label, spaced_basis}
use Rattle.rules.specs.Lines as lines
use Rattle.rules.specs.Lines.{Kind, number, basis, label, Letter, H, U, P, F, T, D, E, Fields, fields_of, byte_of, letter_of, fields_at, places_at, seen, written, basis_inside, ranged, labelled, Line, line_at, line_text}
use Rattle.rules.specs.Places as places
use Rattle.rules.specs.Places.{past}
use Rattle.rules.specs.declared.Basis.{Basis}
use Rattle.rules.specs.declared.Basis.TheVariants.{Low, Generation, Mwh}
use Rattle.laws.specs.Choices.{both_true, malformed_not_got, field_passed}
use Rattle.roundtrip.specs.Labels.{label_from_lem, label_stood}
use Rattle.roundtrip.specs.Fields.{byte_there, byte_stood, Narrow, fields_stood, more_stood}
use Rattle.roundtrip.specs.Lines.{narrow, byte_some, letter_byte, line_ranged, line_stood, line_ends}

-- What stands after the first b.

abbrev after : ℕ → List ℕ → List ℕ
after b t = drop (past b t) t

-- no b stands there
abbrev Free : ℕ → List ℕ → Type 0
Free b [] = Unit {0}
Free b (x ∷ xs) = (x ≡ b → ⊥) × Free b xs

free_append : (b : ℕ) (xs ys : List ℕ) → Free b xs → Free b ys → Free b (xs ++ ys)
free_append b [] ys f g = g
free_append b (x ∷ xs) ys f g = (f.0, free_append b xs ys f.1 g)

after_free : (b : ℕ) (xs t : List ℕ) → Free b xs → after b (xs ++ t) ≡ after b t
unfolding places.past
after_free b [] t f = refl
after_free b (x ∷ xs) t f = rw (ne_eqb x b f.0) (after_free b xs t f.1)

after_found : (b : ℕ) (t : List ℕ) → after b (b ∷ t) ≡ t
unfolding places.past
after_found b t = rw (eq-eqb b b refl)

past_within : (b : ℕ) (t : List ℕ) → past b t ≤ length t
unfolding places.past
past_within b [] = omega arith
past_within b (x ∷ xs) = go (eqb x b) (past_within b xs)
  where
    go : (p : Bool) → past b xs ≤ length xs → (when p then 1 else suc (past b xs)) ≤ suc (length xs)
    go true h = omega arith
    go false h = omega (arith, h)

-- a walk that comes to the rest of the deck from a place on comes to that place
same_end : (b : ℕ) (s : List ℕ) (at to : ℕ) → at ≤ length s → to ≤ length s → after b (drop at s) ≡ drop to s → at + past b (drop at s) ≡ to
same_end b s at to l m e = omega (arith, l, m, past_within b (drop at s), ap length e, length-drop (past b (drop at s)) (drop at s), length-drop at s, length-drop to s)

-- No field has an LF, and none but a label a quote.

digits_in_free : (b : ℕ) → b < 48 → (f v : ℕ) → Free b (digits_in f v)
unfolding fields.digits_in
digits_in_free b h zero v = tt
digits_in_free b h (suc f) v = go (ltb v 10) (digits_in_free b h f (v / 10))
  where
    go : (p : Bool) → Free b (digits_in f (v / 10)) → Free b (when p then (48 + v) ∷ [] else digits_in f (v / 10) ++ ((48 + v % 10) ∷ []))
    go true ih = (λ e. omega arith, tt)
    go false ih = free_append b (digits_in f (v / 10)) ((48 + v % 10) ∷ []) ih (λ e. omega arith, tt)

digits_free : (b : ℕ) → b < 48 → (v : ℕ) → Free b (digits v)
unfolding fields.digits
digits_free b h v = digits_in_free b h 20 v

basis_free : (b : ℕ) → b < 48 → (x : Basis) → Free b (basis_text x)
basis_free b h Low = (λ e. omega arith, tt)
basis_free b h Generation = (λ e. omega arith, tt)
basis_free b h (Mwh v) = digits_free b h v

escape_free : (cs : Chars) → all_characters cs ≡ true → Free 10 (escape cs)
unfolding fields.escape fields.all_characters
escape_free [] e = tt
escape_free (c ∷ cs) e =
    let p = both_true (leb 32 c && leb c 126) (all_characters cs) e in
    let q = leb-true 32 c (both_true (leb 32 c) (leb c 126) p.0).0 in
    go (is_escaped c) q (escape_free cs p.1)
  where
    go : (b : Bool) → 32 ≤ c → Free 10 (escape cs) → Free 10 (when b then 92 ∷ c ∷ escape cs else c ∷ escape cs)
    go true q ih = (λ e. omega arith, (λ e. omega arith, ih))
    go false q ih = (λ e. omega arith, ih)

letter_least : (l : Letter) → 68 ≤ byte_of l
letter_least H = omega arith
letter_least U = omega arith
letter_least P = omega arith
letter_least F = omega arith
letter_least T = omega arith
letter_least D = omega arith
letter_least E = omega arith

-- A line has no LF but its last byte.

fields_after : (ks : List Kind) (v : Fields Chars ks) (t : List ℕ) → labelled ks v ≡ true → after 10 (written ks v t) ≡ after 10 t
unfolding lines.written lines.labelled
fields_after [] v t e = refl
fields_after (number x ∷ ks) v t e = after_free 10 (32 ∷ digits v.0) (written ks v.1 t) (λ e. omega arith, digits_free 10 (omega arith) v.0) ∙ fields_after ks v.1 t e
fields_after (basis x ∷ ks) v t e = after_free 10 (32 ∷ basis_text v.0) (written ks v.1 t) (λ e. omega arith, basis_free 10 (omega arith) v.0) ∙ fields_after ks v.1 t e
fields_after (label ∷ ks) v t e =
    let p = both_true (is_label v.0) (labelled ks v.1) e in
    let w = written ks v.1 t in
    after_free 10 (32 ∷ 34 ∷ escape v.0) (34 ∷ w) (λ e. omega arith, (λ e. omega arith, escape_free v.0 (label_from_lem v.0 p.0).all)) ∙
    after_free 10 (34 ∷ []) w (λ e. omega arith, tt) ∙ fields_after ks v.1 t p.1

line_after : (l : Line) (rest : List ℕ) → labelled (fields_of l.letter) l.fields ≡ true → after 10 (line_text l rest) ≡ rest
unfolding lines.line_text
line_after l rest e =
    let w = written (fields_of l.letter) l.fields (10 ∷ rest) in
    after_free 10 (byte_of l.letter ∷ []) w (λ e. omega (arith, letter_least l.letter), tt) ∙ fields_after (fields_of l.letter) l.fields (10 ∷ rest) e ∙ after_found 10 rest

pub next_starts : (l : Line) (s : List ℕ) (at next : ℕ) → line_at s at ≡ got l next → line_ranged l ≡ true → next ≡ at + past 10 (drop at s)
next_starts l s at next e r =
    let st = line_stood l s at next e in
    let n = line_ends l s at next e r in
    sym (same_end 10 s at next (omega (arith, n)) st.within (ap (after 10) (st.text r) ∙ line_after l (drop next s) st.labels))

-- Its first quote opens its first label.

-- p is where the first label of the fields stands
abbrev pub FirstPlace : (ks : List Kind) → Fields Place ks → Place → Type 0
FirstPlace [] v p = ⊥
FirstPlace (number x ∷ ks) v p = FirstPlace ks v.1 p
FirstPlace (basis x ∷ ks) v p = FirstPlace ks v.1 p
FirstPlace (label ∷ ks) v p = v.0 ≡ p

module _ (s : List ℕ) where
  -- a field that has no quote, and the walk from after it
  past_field : (text : List ℕ) (at m from : ℕ) → Free 34 text → drop at s ≡ text ++ drop m s → at ≤ length s → (m ≤ length s) × (m + past 34 (drop m s) ≡ from)
      → at + past 34 (drop at s) ≡ from
  past_field text at m from f t l q =
      let w = past_within 34 (drop m s) in
      same_end 34 s at from l (omega (arith, q, w, length-drop m s))
      (ap (after 34) t ∙ after_free 34 text (drop m s) f ∙ drop-drop (past 34 (drop m s)) m s ∙ ap (λ (k : ℕ). drop k s) q.1)

  spaced : {A : Type 0} (field : ℕ → Field A) (at : ℕ) (v : A) (n : ℕ) → on_field (byte_at s at 32) (λ u p. field p) ≡ got v n → at ≤ length s
  spaced field at v n e =
      let p = field_passed (byte_at s at 32) (λ u p. field p) v n e in
      omega (arith, byte_stood s at 32 p.place (omega arith) p.first)

  number_text_lem : (x : Range) (at v m : ℕ) → Narrow (number x ∷ []) → inside x v ≡ true → spaced_number s at ≡ got v m → drop at s ≡ (32 ∷ digits v) ++ drop m s
  unfolding lines.ranged lines.written
  number_text_lem x at v m w i e = (fields_stood (number x ∷ []) (v, tt) s at m w (rw e)).text (rw i)

  basis_text_lem : (x : Range) (at : ℕ) (v : Basis) (m : ℕ) → Narrow (basis x ∷ []) → basis_inside x v ≡ true → spaced_basis s at ≡ got v m → drop at s ≡ (32 ∷ basis_text v) ++ drop m s
  unfolding lines.ranged lines.written
  basis_text_lem x at v m w i e = (fields_stood (basis x ∷ []) (v, tt) s at m w (rw e)).text (rw i)

  -- the first label of fields in their ranges starts past the first quote
  first_starts : (ks : List Kind) (at : ℕ) (v : Fields Place ks) (n : ℕ) (p : Place) → Narrow ks → ranged ks (seen ks s v) ≡ true → fields_at ks s at ≡ got v n → FirstPlace ks v p
      → (at ≤ length s) × (at + past 34 (drop at s) ≡ p.from)
  unfolding lines.fields_at lines.ranged lines.seen fields.spaced_number fields.spaced_basis fields.spaced_label places.past
  first_starts [] at v n p w r e f = absurd f
  first_starts (number x ∷ ks) at v n p w r e f =
      let m = more_stood spaced_number (fields_at ks s) s at v n e in
      let k = both_true (inside x v.0) (ranged ks (seen ks s v.1)) r in
      let l = spaced (number_at s) at v.0 m.place m.first in
      let t = number_text_lem x at v.0 m.place (w.0, tt) k.0 m.first in
      (l, past_field (32 ∷ digits v.0) at m.place p.from (λ e. omega arith, digits_free 34 (omega arith) v.0) t l (first_starts ks m.place v.1 n p w.1 k.1 m.second f))
  first_starts (basis x ∷ ks) at v n p w r e f =
      let m = more_stood spaced_basis (fields_at ks s) s at v n e in
      let k = both_true (basis_inside x v.0) (ranged ks (seen ks s v.1)) r in
      let l = spaced (basis_at s) at v.0 m.place m.first in
      let t = basis_text_lem x at v.0 m.place (w.0, tt) k.0 m.first in
      (l, past_field (32 ∷ basis_text v.0) at m.place p.from (λ e. omega arith, basis_free 34 (omega arith) v.0) t l (first_starts ks m.place v.1 n p w.1 k.1 m.second f))
  first_starts (label ∷ ks) at v n p w r e f =
      let m = more_stood spaced_label (fields_at ks s) s at v n e in
      let d = field_passed (byte_at s at 32) (λ u d. label_from d (label_end (drop d s))) v.0 m.place m.first in
      let b = byte_stood s at 32 d.place (omega arith) d.first in
      go d.place (label_end (drop d.place s)) refl d.second b f
    where
      go : {y : Place} {k : ℕ} (d : ℕ) (x : Option ℕ) → label_end (drop d s) ≡ x → label_from d x ≡ got y k → (drop at s ≡ 32 ∷ drop d s) × (d ≡ at + 1) × (d ≤ length s) → y ≡ p
          → (at ≤ length s) × (at + past 34 (drop at s) ≡ p.from)
      go {y} {k} d none xe e b f = malformed_not_got y k e
      go {y} {k} d (some z) xe e b f =
          let c = (label_stood (drop d s) z xe).text in
          let from : d + 1 ≡ y.from = cc in
          let same = ap (λ (y : Place). y.from) f in
          let two : past 34 (drop at s) ≡ 2 = rw (b.0, c) in
          (omega (arith, b), omega (arith, b, two, from, same))

  -- before its fields stands the line's letter
  pub label_starts : (l : Letter) (at : ℕ) (v : Fields Place (fields_of l)) (next : ℕ) (p : Place) → letter_of (byte s at) ≡ some l → ranged (fields_of l) (seen (fields_of l) s v) ≡ true
      → places_at s (at + 1) l ≡ got v next → FirstPlace (fields_of l) v p → p.from ≡ at + past 34 (drop at s)
  unfolding lines.places_at
  label_starts l at v next p b r e f =
      let m = field_passed (fields_at (fields_of l) s (at + 1)) (λ v p. on_field (byte_at s p 10) λ u next. got v next) v next e in
      let q = field_passed (byte_at s m.place 10) (λ u next. got m.mid next) v next m.second in
      let same = q.second in
      let is : m.mid ≡ v = cc in
      let t = first_starts (fields_of l) (at + 1) v m.place p (narrow l) r (m.first ∙ ap (λ (v : Fields Place (fields_of l)). got v m.place) is) f in
      let there = byte_there s at (byte_of l) (byte_some l) (letter_byte (byte s at) l b) in
      sym (past_field (byte_of l ∷ []) at (at + 1) p.from (λ e. omega (arith, letter_least l), tt) there (omega (arith, t)) t)
