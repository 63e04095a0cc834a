-- A written line is read back, and a line that is read was written.
--     line_read      where a line in its ranges stands, it is read
--     line_stood     where a line in its ranges is read, it stands
use Rattle.std.specs.Prelude.{◌≡◌, Bool, true, false, List, ◌∷◌, ℕ, ◌+◌, ◌<◌, ◌≤◌, eqb, length, drop}
use Rattle.std.proofs.Math.Path.{refl}
use Rattle.std.proofs.Common.{ap, sym, subst, ◌∙◌, length-drop}
use Rattle.std.proofs.Math.Option.{Option, none, some}
use native.Mathlib.Omega.{arith}
use Rattle.rules.specs.Words.{when◌then◌else◌}
use Rattle.rules.specs.Fields.{Field, got, malformed, on_field, byte, byte_at, Place, Chars}
use Rattle.rules.specs.Lines as lines
use Rattle.rules.specs.Lines.{Letter, H, U, P, F, T, D, E, fields_of, Fields, fields_at, seen, written, ranged, labelled, byte_of, letter_of, Line, line, places_at, line_from, line_at, line_text}
use Rattle.laws.specs.Choices.{none_not_some, malformed_not_got, field_passed}
use Rattle.laws.specs.Lists.{drop_past_one, get_d_first}
use Rattle.roundtrip.specs.Fields.{byte_read, byte_there, byte_stood, Narrow, size, read_at, fields_read, fields_stood, fields_past, fields_length, seen_read}

-- The letter.

pub narrow : (l : Letter) → Narrow (fields_of l)
narrow H = search arith
narrow U = search arith
narrow P = search arith
narrow F = search arith
narrow T = search arith
narrow D = search arith
narrow E = tt

byte_letter : (l : Letter) → letter_of (byte_of l) ≡ some l
unfolding lines.letter_of
byte_letter H = refl
byte_letter U = refl
byte_letter P = refl
byte_letter F = refl
byte_letter T = refl
byte_letter D = refl
byte_letter E = refl

pub byte_some : (l : Letter) → 1 ≤ byte_of l
byte_some H = omega arith
byte_some U = omega arith
byte_some P = omega arith
byte_some F = omega arith
byte_some T = omega arith
byte_some D = omega arith
byte_some E = omega arith

pub letter_byte : (b : ℕ) (l : Letter) → letter_of b ≡ some l → eqb b (byte_of l) ≡ true
unfolding lines.letter_of
letter_byte b l e =
    test H (test U (test P (test F (test T (test D (test E (none_not_some l))))))) e
  where
    test : (k : Letter) {rest : Option Letter} → (rest ≡ some l → eqb b (byte_of l) ≡ true) → (when eqb b (byte_of k) then some k else rest) ≡ some l
        → eqb b (byte_of l) ≡ true
    test k {rest} after e = go (eqb b (byte_of k)) refl e
      where
        go : (p : Bool) → eqb b (byte_of k) ≡ p → (when p then some k else rest) ≡ some l → eqb b (byte_of l) ≡ true
        go true pe e = let q : k ≡ l = cc in ap (λ (k : Letter). eqb b (byte_of k)) (sym q) ∙ pe
        go false pe e = after e

-- The whole line.

-- a line's fields with each label's characters, and its LF
rest_read : (s : List ℕ) (at : ℕ) (l : Letter)
    → line_from s at (some l) ≡ on_field (read_at (fields_of l) s at) (λ v p. on_field (byte_at s p 10) λ u next. got (line l v) next)
unfolding lines.places_at
rest_read s at l = rw (seen_read (fields_of l) s at) (go (fields_at (fields_of l) s at))
  where
    ends : (v : Fields Place (fields_of l)) (y : Field (Unit {0}))
        → on_field (on_field y (λ u next. got v next)) (λ v next. got (line l (seen (fields_of l) s v)) next) ≡ on_field y (λ u next. got (line l (seen (fields_of l) s v)) next)
    ends v (got u next) = refl
    ends v malformed = refl

    go : (g : Field (Fields Place (fields_of l)))
        → on_field (on_field g (λ v p. on_field (byte_at s p 10) λ u next. got v next)) (λ v next. got (line l (seen (fields_of l) s v)) next)
        ≡ on_field (on_field g (λ v n. got (seen (fields_of l) s v) n)) (λ v p. on_field (byte_at s p 10) λ u next. got (line l v) next)
    go (got v p) = ends v (byte_at s p 10)
    go malformed = refl

-- whether a line's numbers are in their ranges, and its labels labels
abbrev pub line_ranged : Line → Bool
line_ranged l = ranged (fields_of l.letter) l.fields

abbrev pub line_labelled : Line → Bool
line_labelled l = labelled (fields_of l.letter) l.fields

-- how many bytes a line has
abbrev pub line_size : Line → ℕ
line_size l = 2 + size (fields_of l.letter) l.fields

module _ (l : Line) (s rest : List ℕ) (at : ℕ) (e : drop at s ≡ line_text l rest) where
  -- after the letter, and after the fields
  after_letter : drop (at + 1) s ≡ written (fields_of l.letter) l.fields (10 ∷ rest)
  unfolding lines.line_text
  after_letter = drop_past_one s (written (fields_of l.letter) l.fields (10 ∷ rest)) at (byte_of l.letter) e

  after_fields : drop (at + 1 + size (fields_of l.letter) l.fields) s ≡ 10 ∷ rest
  after_fields = fields_past (fields_of l.letter) l.fields s (10 ∷ rest) (at + 1) after_letter

  pub line_read : line_ranged l ≡ true → line_labelled l ≡ true → line_at s at ≡ got l (at + line_size l)
  unfolding lines.line_at lines.line_text
  line_read r lb =
      let ks = fields_of l.letter in
      let v = l.fields in
      let n = at + 1 + size ks v in
      let b : byte s at ≡ byte_of l.letter = get_d_first s (byte_of l.letter ∷ written ks v (10 ∷ rest)) at 0 e in
      let f = fields_read ks v s (10 ∷ rest) (at + 1) (narrow l.letter) r lb refl after_letter in
      let k : n + 1 ≡ at + line_size l = omega arith in
      rw (b, byte_letter l.letter, rest_read s (at + 1) l.letter, f, byte_read s rest n 10 after_fields) (ap (got l) k)

  pub line_past : drop (at + line_size l) s ≡ rest
  line_past =
      let n = at + 1 + size (fields_of l.letter) l.fields in
      let k : at + line_size l ≡ n + 1 = omega arith in
      rw k (drop_past_one s rest n 10 after_fields)

pub line_length : (l : Line) (rest : List ℕ) → length (line_text l rest) ≡ line_size l + length rest
unfolding lines.line_text
line_length l rest = omega (arith, fields_length (fields_of l.letter) l.fields (10 ∷ rest))

-- a line that is read was written
pub record LineStood (l : Line) (s : List ℕ) (at next : ℕ) : Type 0 where
  pub text : line_ranged l ≡ true → drop at s ≡ line_text l (drop next s)
  pub labels : line_labelled l ≡ true
  pub within : next ≤ length s

-- a letter, its fields and LF
line_there : (l : Letter) (v : Fields Chars (fields_of l)) (s : List ℕ) (at p next : ℕ) → eqb (byte s at) (byte_of l) ≡ true → read_at (fields_of l) s (at + 1) ≡ got v p
    → byte_at s p 10 ≡ got tt next → LineStood (line l v) s at next
unfolding lines.line_text
line_there l v s at p next b f e =
    let st = fields_stood (fields_of l) v s (at + 1) p (narrow l) f in
    let n = byte_stood s p 10 next (omega arith) e in
    record {
      text = λ r. byte_there s at (byte_of l) (byte_some l) b ∙ ap (λ (x : List ℕ). byte_of l ∷ x) (st.text r ∙ ap (written (fields_of l) v) n.0);
      labels = st.labels;
      within = n.2;
    }

pub line_stood : (l : Line) (s : List ℕ) (at next : ℕ) → line_at s at ≡ got l next → LineStood l s at next
unfolding lines.line_at
line_stood l s at next e = go (letter_of (byte s at)) refl e
  where
    go : (x : Option Letter) → letter_of (byte s at) ≡ x → line_from s (at + 1) x ≡ got l next → LineStood l s at next
    go none xe e = malformed_not_got l next e
    go (some k) xe e =
        let p = field_passed (read_at (fields_of k) s (at + 1)) _ l next (sym (rest_read s (at + 1) k) ∙ e) in
        let q = field_passed (byte_at s p.place 10) _ l next p.second in
        let same = q.second in
        let is : line k p.mid ≡ l = cc in
        let n : q.place ≡ next = cc in
        subst (λ (x : Line). LineStood x s at next) is (line_there k p.mid s at p.place next (letter_byte (byte s at) k xe) p.first (q.first ∙ ap (got tt) n))

-- a line has bytes
pub line_ends : (l : Line) (s : List ℕ) (at next : ℕ) → line_at s at ≡ got l next → line_ranged l ≡ true → (at < next) × (next ≤ length s)
line_ends l s at next e r =
    let st = line_stood l s at next e in
    let t = ap length (st.text r) in
    (omega (arith, t, length-drop at s, length-drop next s, line_length l (drop next s), st.within), st.within)
