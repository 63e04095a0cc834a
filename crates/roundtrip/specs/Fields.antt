-- Written fields are read back, and fields that are read were written, once for every list of kinds.
--     fields_read      where fields in their ranges stand, and no digit after them, they are read
--     fields_stood     where fields in their ranges are read, they stand
use Rattle.std.specs.Prelude.{◌≡◌, refl, Bool, true, false, List, [], ◌∷◌, ◌++◌, ℕ, suc, ◌+◌, ◌-◌, ◌^◌, ◌<◌, ◌≤◌, leb, eqb, length, take, drop}
use Rattle.std.proofs.Common.{ap, sym, subst, ◌∙◌, append_assoc, add-one, arith, length-append, drop-drop, drop-cons, leb-true, leb-false, eqb-true, eq-eqb, ne_eqb}
use Rattle.std.proofs.Math.Option.{Option, none, some}
use Rattle.std.proofs.Math.ListN.{get_or-eq_default}
use Rattle.std.proofs.Math.Seq.{take-append_seam, drop-append-add}
use Rattle.rules.specs.Words.{when◌then◌else◌}
use Rattle.rules.specs.Ranges.{Range, inside}
use Rattle.rules.specs.Fields as fields
use Rattle.rules.specs.Fields.{Field, got, malformed, on_field, byte, byte_at, number_at, digits, escape, unescape, label_end, Place, Chars, chars_at, is_label, spaced_number, label_from, spaced_label, basis_from, basis_at, spaced_basis, basis_text}
use Rattle.rules.specs.Lines as lines
use Rattle.rules.specs.Lines.{Kind, number, basis, label, Fields, push, fields_at, seen, written, basis_inside, ranged, labelled}
use Rattle.rules.specs.declared.Basis.{Basis}
use Rattle.rules.specs.declared.Basis.TheVariants.{Low, Generation, Mwh}
use Rattle.laws.specs.Choices.{both_true, malformed_not_got, got_passed, field_passed}
use Rattle.laws.specs.Lists.{drop_past, drop_past_one, get_d_first}
use Rattle.roundtrip.specs.Numbers.{Stops, digit_from, number_read, number_stood, number_first}
use Rattle.roundtrip.specs.Labels.{Quoted, label_read, label_stood, unescape_escape}

-- One byte.

pub byte_read : (s rest : List ℕ) (at b : ℕ) → drop at s ≡ b ∷ rest → byte_at s at b ≡ got tt (at + 1)
unfolding fields.byte_at
byte_read s rest at b e = rw (eq-eqb (byte s at) b (get_d_first s (b ∷ rest) at 0 e))

-- a byte that is not 0 stands there
byte_within : (s : List ℕ) (at : ℕ) → 1 ≤ byte s at → at < length s
byte_within s at h = go (leb (length s) at) refl
  where
    go : (p : Bool) → leb (length s) at ≡ p → at < length s
    go true e = absurd (omega (arith, get_or-eq_default s 0 (leb-true (length s) at e)))
    go false e = leb-false (length s) at e

pub byte_there : (s : List ℕ) (at b : ℕ) → 1 ≤ b → eqb (byte s at) b ≡ true → drop at s ≡ b ∷ drop (at + 1) s
byte_there s at b h e =
    let q : byte s at ≡ b = eqb-true (byte s at) b e in
    drop-cons s at 0 (byte_within s at (omega arith)) ∙ rw (q, add-one)

pub byte_stood : (s : List ℕ) (at b next : ℕ) → 1 ≤ b → byte_at s at b ≡ got tt next → (drop at s ≡ b ∷ drop next s) × (next ≡ at + 1) × (next ≤ length s)
unfolding fields.byte_at
byte_stood s at b next h e =
    let p = got_passed (eqb (byte s at) b) (got tt (at + 1)) tt next e in
    let k : at + 1 ≡ next = let j = p.1 in cc in
    let q = eqb-true (byte s at) b p.0 in
    let w = byte_within s at (omega arith) in
    (rw (← k) (byte_there s at b h p.0), sym k, omega arith)

-- A field's round trip.

-- the value v, written as text v: it is read where it stands, and stands where it is read
record Trip {A : Type 0} (field : List ℕ → ℕ → Field A) (text : A → List ℕ) (v : A) : Type 0 where
  reads : (s rest : List ℕ) (at : ℕ) → drop at s ≡ text v ++ rest → Stops rest → field s at ≡ got v (at + length (text v))
  stands : (s : List ℕ) (at next : ℕ) → field s at ≡ got v next → drop at s ≡ text v ++ drop next s

-- a field after its space
module _ {A : Type 0} (field : List ℕ → ℕ → Field A) where
  abbrev spaced : List ℕ → ℕ → Field A
  spaced s at = on_field (byte_at s at 32) λ u p. field s p

  spaced_stood : (s : List ℕ) (at : ℕ) (v : A) (next : ℕ) → spaced s at ≡ got v next → (drop at s ≡ 32 ∷ drop (at + 1) s) × (field s (at + 1) ≡ got v next)
  spaced_stood s at v next e =
      let p = field_passed (byte_at s at 32) (λ u p. field s p) v next e in
      let b = byte_stood s at 32 p.place (omega arith) p.first in
      let k = b.1 in
      (rw k at b.0, rw k at p.second)

  spaced_trip : (text : A → List ℕ) (v : A) → Trip field text v → Trip spaced (λ v. 32 ∷ text v) v
  spaced_trip text v t =
      record {
        reads = λ s rest at e stop.
            let k : at + 1 + length (text v) ≡ at + suc (length (text v)) = omega arith in
            rw (byte_read s (text v ++ rest) at 32 e) (t.reads s rest (at + 1) (drop_past_one s (text v ++ rest) at 32 e) stop ∙ ap (got v) k);
        stands = λ s at next e. let p = spaced_stood s at v next e in p.0 ∙ ap (λ (l : List ℕ). 32 ∷ l) (t.stands s (at + 1) next p.1);
      }

-- Numbers and bases in their ranges.

pub record Inside (x : Range) (v : ℕ) : Type 0 where
  pub least : x.least ≤ v
  pub most : v ≤ x.most

pub inside_from : (x : Range) (v : ℕ) → inside x v ≡ true → Inside x v
inside_from x v e = let p = both_true (leb x.least v) (leb v x.most) e in record { least = leb-true x.least v p.0; most = leb-true v x.most p.1 }

-- a range of numbers that have 64 bits
abbrev NarrowRange : Range → Type 0
NarrowRange x = x.most < 2 ^ 64

inside_small : (x : Range) (v : ℕ) → NarrowRange x → inside x v ≡ true → v < 2 ^ 64
inside_small x v n e = omega (arith, (inside_from x v e).most)

number_trip : (x : Range) (v : ℕ) → NarrowRange x → inside x v ≡ true → Trip spaced_number (λ v. 32 ∷ digits v) v
unfolding fields.spaced_number
number_trip x v n i =
    spaced_trip number_at digits v
    (record { reads = λ s rest at. number_read s at v rest (inside_small x v n i); stands = λ s at next. number_stood s at v next (inside_small x v n i) })

basis_read : (x : Range) (b : Basis) (s rest : List ℕ) (at : ℕ) → NarrowRange x → basis_inside x b ≡ true → drop at s ≡ basis_text b ++ rest → Stops rest
    → basis_at s at ≡ got b (at + length (basis_text b))
unfolding fields.basis_at
basis_read x Low s rest at n i e stop = rw (get_d_first s (76 ∷ rest) at 0 e)
basis_read x Generation s rest at n i e stop = rw (get_d_first s (71 ∷ rest) at 0 e)
basis_read x (Mwh v) s rest at n i e stop =
    let r = number_read s at v rest (inside_small x v n i) e stop in
    let d = digit_from (byte s at) (number_first s at v (at + length (digits v)) r) in
    rw (ne_eqb (byte s at) 76 (λ k. omega arith), ne_eqb (byte s at) 71 (λ k. omega arith), r)

basis_stood : (x : Range) (b : Basis) (s : List ℕ) (at next : ℕ) → NarrowRange x → basis_inside x b ≡ true → basis_at s at ≡ got b next
    → drop at s ≡ basis_text b ++ drop next s
unfolding fields.basis_at
basis_stood x b s at next n i e = go (eqb (byte s at) 76) refl (eqb (byte s at) 71) refl (number_at s at) refl e
  where
    letter : (c : ℕ) (k : Basis) → 1 ≤ c → basis_text k ≡ c ∷ [] → eqb (byte s at) c ≡ true → got k (at + 1) ≡ got b next → drop at s ≡ basis_text b ++ drop next s
    letter c k h t ce e =
        let w : k ≡ b = cc in
        let j : at + 1 ≡ next = cc in
        byte_there s at c h ce ∙ rw (← j, ← w, t)

    go : (p : Bool) → eqb (byte s at) 76 ≡ p → (q : Bool) → eqb (byte s at) 71 ≡ q → (f : Field ℕ) → number_at s at ≡ f
        → (when p then got Low (at + 1) else when q then got Generation (at + 1) else basis_from f) ≡ got b next → drop at s ≡ basis_text b ++ drop next s
    go true pe q qe f fe e = letter 76 Low (omega arith) refl pe e
    go false pe true qe f fe e = letter 71 Generation (omega arith) refl qe e
    go false pe false qe malformed fe e = malformed_not_got b next e
    go false pe false qe (got v k) fe e =
        let w : Mwh v ≡ b = cc in
        let j : k ≡ next = cc in
        let small : inside x v ≡ true = subst (λ (y : Basis). basis_inside x y ≡ true) (sym w) i in
        number_stood s at v k (inside_small x v n small) fe ∙ rw (← j, ← w)

basis_trip : (x : Range) (b : Basis) → NarrowRange x → basis_inside x b ≡ true → Trip spaced_basis (λ b. 32 ∷ basis_text b) b
unfolding fields.spaced_basis
basis_trip x b n i =
    spaced_trip basis_at basis_text b
    (record { reads = λ s rest at. basis_read x b s rest at n i; stands = λ s at next. basis_stood x b s at next n i })

-- Labels.

-- a label's characters after its space
abbrev spaced_chars : List ℕ → ℕ → Field Chars
spaced_chars s at = on_field (spaced_label s at) λ p next. got (chars_at s p) next

abbrev pub label_text : Chars → List ℕ
label_text cs = 32 ∷ 34 ∷ escape cs ++ (34 ∷ [])

-- what stands between the quotes
chars_between : (s cs rest : List ℕ) (d : ℕ) → drop d s ≡ 34 ∷ escape cs ++ (34 ∷ rest)
    → chars_at s (record { from = d + 1; upto = d + (1 + length (escape cs)) }) ≡ cs
chars_between s cs rest d e =
    let k : d + (1 + length (escape cs)) - (d + 1) ≡ length (escape cs) = omega arith in
    ap (unescape false)
    (ap (λ (n : ℕ). take n (drop (d + 1) s)) k ∙ ap (take (length (escape cs))) (drop_past_one s (escape cs ++ (34 ∷ rest)) d 34 e) ∙ take-append_seam (escape cs) (34 ∷ rest))
    ∙ unescape_escape cs

chars_read : (cs s rest : List ℕ) (at : ℕ) → is_label cs ≡ true → drop at s ≡ label_text cs ++ rest → spaced_chars s at ≡ got cs (at + length (label_text cs))
unfolding fields.spaced_label
chars_read cs s rest at lb e =
    let l = length (escape cs) in
    let a : drop at s ≡ 32 ∷ 34 ∷ escape cs ++ (34 ∷ rest) = e ∙ append_assoc (32 ∷ 34 ∷ escape cs) (34 ∷ []) rest in
    let b : drop (at + 1) s ≡ 34 ∷ escape cs ++ (34 ∷ rest) = drop_past_one s (34 ∷ escape cs ++ (34 ∷ rest)) at 32 a in
    let z : label_end (drop (at + 1) s) ≡ some (1 + l) = ap label_end b ∙ label_read cs rest lb in
    let k : at + 1 + (1 + l) + 1 ≡ at + length (label_text cs) = omega (arith, length-append (escape cs) (34 ∷ [])) in
    rw (byte_read s (34 ∷ escape cs ++ (34 ∷ rest)) at 32 a, z)
    (ap (λ (x : Chars). got x (at + 1 + (1 + l) + 1)) (chars_between s cs rest (at + 1) b) ∙ ap (got cs) k)

record LabelFrom (d : ℕ) (x : Option ℕ) (p : Place) (next : ℕ) : Type 0 where
  end : ℕ
  is : x ≡ some end
  place : record { from = d + 1; upto = d + end } ≡ p
  after : d + end + 1 ≡ next

label_from_passed : (d : ℕ) (x : Option ℕ) (p : Place) (next : ℕ) → label_from d x ≡ got p next → LabelFrom d x p next
label_from_passed d none p next e = malformed_not_got p next e
label_from_passed d (some z) p next e = record { end = z; is = refl; place = cc; after = cc }

-- the characters of what stands between the quotes stand there
chars_there : (cs s : List ℕ) (at end next : ℕ) → drop at s ≡ 32 ∷ drop (at + 1) s → Quoted (drop (at + 1) s) end
    → chars_at s (record { from = at + 1 + 1; upto = at + 1 + end }) ≡ cs → at + 1 + end + 1 ≡ next
    → (drop at s ≡ label_text cs ++ drop next s) × (is_label cs ≡ true)
chars_there cs s at end next space q e n =
    let is : cs ≡ q.cs = sym e ∙ ap (λ (k : ℕ). chars_at s (record { from = at + 1 + 1; upto = at + 1 + k })) q.place ∙ chars_between s q.cs q.rest (at + 1) q.text in
    let t : drop at s ≡ label_text q.cs ++ q.rest = space ∙ ap (λ (l : List ℕ). 32 ∷ l) q.text ∙ sym (append_assoc (32 ∷ 34 ∷ escape q.cs) (34 ∷ []) q.rest) in
    let k : at + length (label_text q.cs) ≡ next = omega (arith, length-append (escape q.cs) (34 ∷ []), q.place) in
    let r : q.rest ≡ drop next s = sym (drop_past s (label_text q.cs) q.rest at t) ∙ ap (λ (n : ℕ). drop n s) k in
    (t ∙ ap (λ (l : List ℕ). label_text q.cs ++ l) r ∙ ap (λ (c : Chars). label_text c ++ drop next s) (sym is), ap is_label is ∙ q.label)

chars_stood : (cs s : List ℕ) (at next : ℕ) → spaced_chars s at ≡ got cs next → (drop at s ≡ label_text cs ++ drop next s) × (is_label cs ≡ true)
unfolding fields.spaced_label
chars_stood cs s at next e =
    let p = field_passed (spaced_label s at) (λ p next. got (chars_at s p) next) cs next e in
    let q = spaced_stood (λ s d. label_from d (label_end (drop d s))) s at p.mid p.place p.first in
    let f = label_from_passed (at + 1) (label_end (drop (at + 1) s)) p.mid p.place q.1 in
    let same = p.second in
    let c : chars_at s p.mid ≡ cs = cc in
    let n : p.place ≡ next = cc in
    chars_there cs s at f.end next q.0 (label_stood (drop (at + 1) s) f.end f.is) (ap (chars_at s) f.place ∙ c) (f.after ∙ n)

label_trip : (cs : Chars) → is_label cs ≡ true → Trip spaced_chars label_text cs
label_trip cs lb = record { reads = λ s rest at e stop. chars_read cs s rest at lb e; stands = λ s at next e. (chars_stood cs s at next e).0 }

-- Lists of fields.

-- every number is of 64 bits
abbrev pub Narrow : List Kind → Type 0
Narrow [] = Unit {0}
Narrow (number x ∷ ks) = NarrowRange x × Narrow ks
Narrow (basis x ∷ ks) = NarrowRange x × Narrow ks
Narrow (label ∷ ks) = Narrow ks

-- how many bytes they have
abbrev pub size : (ks : List Kind) → Fields Chars ks → ℕ
size [] v = 0
size (number x ∷ ks) v = suc (length (digits v.0)) + size ks v.1
size (basis x ∷ ks) v = suc (length (basis_text v.0)) + size ks v.1
size (label ∷ ks) v = length (label_text v.0) + size ks v.1

-- the fields from a place on, with each label's characters
abbrev pub read_at : (ks : List Kind) → List ℕ → ℕ → Field (Fields Chars ks)
read_at [] s at = got tt at
read_at (number x ∷ ks) s at = on_field (spaced_number s at) λ v next. push v (read_at ks s next)
read_at (basis x ∷ ks) s at = on_field (spaced_basis s at) λ v next. push v (read_at ks s next)
read_at (label ∷ ks) s at = on_field (spaced_chars s at) λ v next. push v (read_at ks s next)

written_label : (ks : List Kind) (v : Fields Chars (label ∷ ks)) (rest : List ℕ) → written (label ∷ ks) v rest ≡ label_text v.0 ++ written ks v.1 rest
unfolding lines.written
written_label ks v rest = sym (append_assoc (32 ∷ 34 ∷ escape v.0) (34 ∷ []) (written ks v.1 rest))

written_stops : (ks : List Kind) (v : Fields Chars ks) (rest : List ℕ) → Stops rest → Stops (written ks v rest)
unfolding lines.written
written_stops [] v rest h = h
written_stops (number x ∷ ks) v rest h = refl
written_stops (basis x ∷ ks) v rest h = refl
written_stops (label ∷ ks) v rest h = refl

-- one field more
module _ {A B : Type 0} (field : List ℕ → ℕ → Field A) (text : A → List ℕ) (rest : ℕ → Field B) (s : List ℕ) (at : ℕ) where
  more_read : (a : A) (b : B) (w : List ℕ) (n : ℕ) → Trip field text a → drop at s ≡ text a ++ w → Stops w
      → rest (at + length (text a)) ≡ got b (at + length (text a) + n)
      → on_field (field s at) (λ v next. push v (rest next)) ≡ got (a, b) (at + (length (text a) + n))
  more_read a b w n t e stop r =
      let k : at + length (text a) + n ≡ at + (length (text a) + n) = omega arith in
      rw (t.reads s w at e stop, r) (ap (got (a, b)) k)

module _ {A B : Type 0} (field : List ℕ → ℕ → Field A) (rest : ℕ → Field B) (s : List ℕ) (at : ℕ) where
  -- what is got was got field by field
  pub record More (v : A × B) (n : ℕ) : Type 0 where
    pub place : ℕ
    pub first : field s at ≡ got v.0 place
    pub second : rest place ≡ got v.1 n

  pub more_stood : (v : A × B) (n : ℕ) → on_field (field s at) (λ v next. push v (rest next)) ≡ got v n → More v n
  more_stood v n e =
      let p = field_passed (field s at) (λ v next. push v (rest next)) v n e in
      go p.mid p.place p.first (rest p.place) refl p.second
    where
      go : (a : A) (m : ℕ) → field s at ≡ got a m → (r : Field B) → rest m ≡ r → push a r ≡ got v n → More v n
      go a m f malformed re e = malformed_not_got v n e
      go a m f (got b k) re e =
          let p : ◌≡◌ {A = A × B} (a, b) v = cc in
          let q : k ≡ n = cc in
          record { place = m; first = f ∙ ap (λ (x : A × B). got x.0 m) p; second = re ∙ ap (λ (x : A × B). got x.1 k) p ∙ ap (got v.1) q }

-- written fields are read
pub fields_read : (ks : List Kind) (v : Fields Chars ks) (s rest : List ℕ) (at : ℕ) → Narrow ks → ranged ks v ≡ true → labelled ks v ≡ true → Stops rest
    → drop at s ≡ written ks v rest → read_at ks s at ≡ got v (at + size ks v)
unfolding lines.written lines.ranged lines.labelled
fields_read [] v s rest at n r lb stop e = let k : at ≡ at + 0 = omega arith in ap (got v) k
fields_read (number x ∷ ks) v s rest at n r lb stop e =
    let p = both_true (inside x v.0) (ranged ks v.1) r in
    let w = written ks v.1 rest in
    let ih = fields_read ks v.1 s rest (at + suc (length (digits v.0))) n.1 p.1 lb stop (drop_past s (32 ∷ digits v.0) w at e) in
    more_read spaced_number (λ v. 32 ∷ digits v) (read_at ks s) s at v.0 v.1 w (size ks v.1) (number_trip x v.0 n.0 p.0) e (written_stops ks v.1 rest stop) ih
fields_read (basis x ∷ ks) v s rest at n r lb stop e =
    let p = both_true (basis_inside x v.0) (ranged ks v.1) r in
    let w = written ks v.1 rest in
    let ih = fields_read ks v.1 s rest (at + suc (length (basis_text v.0))) n.1 p.1 lb stop (drop_past s (32 ∷ basis_text v.0) w at e) in
    more_read spaced_basis (λ b. 32 ∷ basis_text b) (read_at ks s) s at v.0 v.1 w (size ks v.1) (basis_trip x v.0 n.0 p.0) e (written_stops ks v.1 rest stop) ih
fields_read (label ∷ ks) v s rest at n r lb stop e =
    let p = both_true (is_label v.0) (labelled ks v.1) lb in
    let w = written ks v.1 rest in
    let e = e ∙ written_label ks v rest in
    let ih = fields_read ks v.1 s rest (at + length (label_text v.0)) n r p.1 stop (drop_past s (label_text v.0) w at e) in
    more_read spaced_chars label_text (read_at ks s) s at v.0 v.1 w (size ks v.1) (label_trip v.0 p.0) e (written_stops ks v.1 rest stop) ih

-- fields that are read were written
pub record Stood (ks : List Kind) (s : List ℕ) (at : ℕ) (v : Fields Chars ks) (next : ℕ) : Type 0 where
  pub text : ranged ks v ≡ true → drop at s ≡ written ks v (drop next s)
  pub labels : labelled ks v ≡ true

pub fields_stood : (ks : List Kind) (v : Fields Chars ks) (s : List ℕ) (at next : ℕ) → Narrow ks → read_at ks s at ≡ got v next → Stood ks s at v next
unfolding lines.written lines.ranged lines.labelled
fields_stood [] v s at next n e = record { text = λ r. let k : at ≡ next = cc in ap (λ (k : ℕ). drop k s) k; labels = refl }
fields_stood (number x ∷ ks) v s at next n e =
    let m = more_stood spaced_number (read_at ks s) s at v next e in
    let ih = fields_stood ks v.1 s m.place next n.1 m.second in
    record {
      text = λ r.
          let p = both_true (inside x v.0) (ranged ks v.1) r in
          (number_trip x v.0 n.0 p.0).stands s at m.place m.first ∙ ap (λ (l : List ℕ). 32 ∷ digits v.0 ++ l) (ih.text p.1);
      labels = ih.labels;
    }
fields_stood (basis x ∷ ks) v s at next n e =
    let m = more_stood spaced_basis (read_at ks s) s at v next e in
    let ih = fields_stood ks v.1 s m.place next n.1 m.second in
    record {
      text = λ r.
          let p = both_true (basis_inside x v.0) (ranged ks v.1) r in
          (basis_trip x v.0 n.0 p.0).stands s at m.place m.first ∙ ap (λ (l : List ℕ). 32 ∷ basis_text v.0 ++ l) (ih.text p.1);
      labels = ih.labels;
    }
fields_stood (label ∷ ks) v s at next n e =
    let m = more_stood spaced_chars (read_at ks s) s at v next e in
    let ih = fields_stood ks v.1 s m.place next n m.second in
    let c = chars_stood v.0 s at m.place m.first in
    record {
      text = λ r. c.0 ∙ ap (λ (l : List ℕ). label_text v.0 ++ l) (ih.text r) ∙ sym (written_label ks v (drop next s));
      labels = rw c.1 ih.labels;
    }

-- after the fields
written_past : (ks : List Kind) (v : Fields Chars ks) (rest : List ℕ) → drop (size ks v) (written ks v rest) ≡ rest
unfolding lines.written
written_past [] v rest = refl
written_past (number x ∷ ks) v rest = drop-append-add (32 ∷ digits v.0) (written ks v.1 rest) (size ks v.1) ∙ written_past ks v.1 rest
written_past (basis x ∷ ks) v rest = drop-append-add (32 ∷ basis_text v.0) (written ks v.1 rest) (size ks v.1) ∙ written_past ks v.1 rest
written_past (label ∷ ks) v rest = ap (drop (size (label ∷ ks) v)) (written_label ks v rest) ∙ drop-append-add (label_text v.0) (written ks v.1 rest) (size ks v.1) ∙ written_past ks v.1 rest

pub fields_past : (ks : List Kind) (v : Fields Chars ks) (s rest : List ℕ) (at : ℕ) → drop at s ≡ written ks v rest → drop (at + size ks v) s ≡ rest
fields_past ks v s rest at e = sym (drop-drop (size ks v) at s) ∙ ap (drop (size ks v)) e ∙ written_past ks v rest

pub fields_length : (ks : List Kind) (v : Fields Chars ks) (rest : List ℕ) → length (written ks v rest) ≡ size ks v + length rest
unfolding lines.written
fields_length [] v rest = omega arith
fields_length (number x ∷ ks) v rest = omega (arith, length-append (digits v.0) (written ks v.1 rest), fields_length ks v.1 rest)
fields_length (basis x ∷ ks) v rest = omega (arith, length-append (basis_text v.0) (written ks v.1 rest), fields_length ks v.1 rest)
fields_length (label ∷ ks) v rest = omega (arith, ap length (written_label ks v rest), length-append (label_text v.0) (written ks v.1 rest), fields_length ks v.1 rest)

-- The fields of a line are read so.

module _ {A B C D : Type 0} (label : A → C) (others : B → D) (field : Field A) (seen_field : Field C) (rest : ℕ → Field B) (seen_rest : ℕ → Field D) where
  seen_more : seen_field ≡ on_field field (λ v n. got (label v) n) → ((m : ℕ) → seen_rest m ≡ on_field (rest m) (λ v n. got (others v) n))
      → on_field seen_field (λ v n. push v (seen_rest n)) ≡ on_field (on_field field (λ v n. push v (rest n))) (λ v n. got (label v.0, others v.1) n)
  seen_more e r = rw e (go field)
    where
      pushed : (a : A) (g : Field B) → push (label a) (on_field g (λ v n. got (others v) n)) ≡ on_field (push a g) (λ v n. got (label v.0, others v.1) n)
      pushed a (got b n) = refl
      pushed a malformed = refl

      go : (f : Field A)
          → on_field (on_field f (λ v n. got (label v) n)) (λ v n. push v (seen_rest n)) ≡ on_field (on_field f (λ v n. push v (rest n))) (λ v n. got (label v.0, others v.1) n)
      go (got a m) = rw (r m) (pushed a (rest m))
      go malformed = refl

field_same : {A : Type 0} (x : Field A) → x ≡ on_field x (λ v n. got v n)
field_same (got v n) = refl
field_same malformed = refl

pub seen_read : (ks : List Kind) (s : List ℕ) (at : ℕ) → read_at ks s at ≡ on_field (fields_at ks s at) (λ v n. got (seen ks s v) n)
unfolding lines.fields_at lines.seen
seen_read [] s at = refl
seen_read (number x ∷ ks) s at = seen_more (λ v. v) (seen ks s) (spaced_number s at) (spaced_number s at) (fields_at ks s) (read_at ks s) (field_same (spaced_number s at)) (seen_read ks s)
seen_read (basis x ∷ ks) s at = seen_more (λ v. v) (seen ks s) (spaced_basis s at) (spaced_basis s at) (fields_at ks s) (read_at ks s) (field_same (spaced_basis s at)) (seen_read ks s)
seen_read (label ∷ ks) s at = seen_more (chars_at s) (seen ks s) (spaced_label s at) (spaced_chars s at) (fields_at ks s) (read_at ks s) refl (seen_read ks s)
