-- A deck that is accepted, and the writing of a valid hour, has at most 7,018 bytes.
use Rattle.std.specs.Prelude.{◌≡◌, refl, Bool, true, false, List, [], ◌∷◌, ◌++◌, ℕ, zero, suc, ◌+◌, ◌*◌, ◌/◌, ◌%◌, ◌≤◌, ltb, length}
use Rattle.std.proofs.Common.{subst, arith, length-append, ltb-true, ltb-false, leb-true}
use Rattle.rules.specs.Words.{when◌then◌else◌}
use Rattle.rules.specs.Refusals.{accepted}
use Rattle.rules.specs.Ranges.{Range, inside}
use Rattle.rules.specs.Fields as fields
use Rattle.rules.specs.Fields.{is_escaped, digits_in, digits, escape, Chars, is_label, basis_text}
use Rattle.rules.specs.Lines as lines
use Rattle.rules.specs.Lines.{Kind, number, basis, label, Fields, fields_of, basis_inside, ranged, labelled, Line, line_text}
use Rattle.rules.specs.Record.{started, plant_line, delivery_line, direct_line, head_line, end_line, body}
use Rattle.rules.specs.Reading as reading
use Rattle.rules.specs.Reading.{taken, feed}
use Rattle.rules.specs.Writing as writing
use Rattle.rules.specs.Writing.{texts, deck_text, all_labelled, valid}
use Rattle.rules.specs.declared.Plant.{Plant}
use Rattle.rules.specs.declared.Plant.TheVariants.{Unit as U, Purchase as P, Fixed as F}
use Rattle.rules.specs.declared.Basis.{Basis}
use Rattle.rules.specs.declared.Basis.TheVariants.{Low, Generation, Mwh}
use Rattle.rules.specs.declared.Hour.{Hour}
use Rattle.laws.specs.Choices.{both_true, accepted_same, then_passed}
use Rattle.roundtrip.specs.Labels.{label_from_lem}
use Rattle.roundtrip.specs.Fields.{inside_from, size}
use Rattle.roundtrip.specs.Lines.{line_ranged, line_labelled, line_size, line_length}
use Rattle.roundtrip.specs.Taken.{Entry, source, delivery, direct, taken_passed}
use Rattle.roundtrip.specs.Entries.{Entries}
use Rattle.roundtrip.specs.OwnLines.{OwnLines, head_passed, valid_own, own_entries}
use Rattle.roundtrip.specs.AcceptedIsWriting.{reading_stands}

-- A number's digits are no more than a greater one's.

digits_in_some : (f v : ℕ) → 1 ≤ length (digits_in (suc f) v)
unfolding fields.digits_in
digits_in_some f v = go (ltb v 10)
  where
    go : (p : Bool) → 1 ≤ length (when p then (48 + v) ∷ [] else digits_in f (v / 10) ++ ((48 + v % 10) ∷ []))
    go true = omega arith
    go false = omega (arith, length-append (digits_in f (v / 10)) ((48 + v % 10) ∷ []))

digits_in_most : (f v w : ℕ) → v ≤ w → length (digits_in f v) ≤ length (digits_in f w)
unfolding fields.digits_in
digits_in_most zero v w h = omega arith
digits_in_most (suc f) v w h = go (ltb v 10) refl (ltb w 10) refl (digits_in_most f (v / 10) (w / 10) (omega arith))
  where
    go : (p : Bool) → ltb v 10 ≡ p → (q : Bool) → ltb w 10 ≡ q → length (digits_in f (v / 10)) ≤ length (digits_in f (w / 10))
        → length (when p then (48 + v) ∷ [] else digits_in f (v / 10) ++ ((48 + v % 10) ∷ [])) ≤ length (when q then (48 + w) ∷ [] else digits_in f (w / 10) ++ ((48 + w % 10) ∷ []))
    go true pe true qe ih = omega arith
    go true pe false qe ih = omega (arith, length-append (digits_in f (w / 10)) ((48 + w % 10) ∷ []))
    go false pe true qe ih = absurd (omega (arith, ltb-false v 10 pe, ltb-true w 10 qe))
    go false pe false qe ih = omega (arith, length-append (digits_in f (v / 10)) ((48 + v % 10) ∷ []), length-append (digits_in f (w / 10)) ((48 + w % 10) ∷ []))

pub digits_most : (v w : ℕ) → v ≤ w → length (digits v) ≤ length (digits w)
unfolding fields.digits
digits_most v w h = digits_in_most 20 v w h

digits_some : (v : ℕ) → 1 ≤ length (digits v)
unfolding fields.digits
digits_some v = digits_in_some 19 v

pub escape_most : (cs : Chars) → length (escape cs) ≤ 2 * length cs
unfolding fields.escape
escape_most [] = omega arith
escape_most (c ∷ cs) = go (is_escaped c) (escape_most cs)
  where
    go : (p : Bool) → length (escape cs) ≤ 2 * length cs → length (when p then 92 ∷ c ∷ escape cs else c ∷ escape cs) ≤ 2 * length (c ∷ cs)
    go true h = omega arith
    go false h = omega arith

-- The longest text of fields, and of a line.

unfoldable most : List Kind → ℕ
most [] = 0
most (number x ∷ ks) = 1 + length (digits x.most) + most ks
most (basis x ∷ ks) = 1 + length (digits x.most) + most ks
most (label ∷ ks) = 35 + most ks

basis_most : (x : Range) (b : Basis) → basis_inside x b ≡ true → length (basis_text b) ≤ length (digits x.most)
basis_most x Low e = digits_some x.most
basis_most x Generation e = digits_some x.most
basis_most x (Mwh v) e = digits_most v x.most (inside_from x v e).most

size_most : (ks : List Kind) (v : Fields Chars ks) → ranged ks v ≡ true → labelled ks v ≡ true → size ks v ≤ most ks
unfolding lines.ranged lines.labelled most
size_most [] v r l = omega arith
size_most (number x ∷ ks) v r l =
    let p = both_true (inside x v.0) (ranged ks v.1) r in
    omega (arith, digits_most v.0 x.most (inside_from x v.0 p.0).most, size_most ks v.1 p.1 l)
size_most (basis x ∷ ks) v r l =
    let p = both_true (basis_inside x v.0) (ranged ks v.1) r in
    omega (arith, basis_most x v.0 p.0, size_most ks v.1 p.1 l)
size_most (label ∷ ks) v r l =
    let p = both_true (is_label v.0) (labelled ks v.1) l in
    omega (arith, length-append (escape v.0) (34 ∷ []), escape_most v.0, leb-true (length v.0) 16 (label_from_lem v.0 p.0).few, size_most ks v.1 r p.1)

-- a line in its ranges is no longer than n bytes
abbrev AtMost : ℕ → Line → Type 0
AtMost n l = line_ranged l ≡ true → line_labelled l ≡ true → line_size l ≤ n

line_most : (l : Line) → AtMost (2 + most (fields_of l.letter)) l
line_most l r lb = omega (arith, size_most (fields_of l.letter) l.fields r lb)

source_most : (p : Plant) (cs : Chars) → AtMost 89 (plant_line p cs)
unfolding most fields.digits fields.digits_in
source_most (U u) cs r lb = line_most (plant_line (U u) cs) r lb
source_most (P g rate) cs r lb = omega (arith, line_most (plant_line (P g rate) cs) r lb)
source_most (F g) cs r lb = omega (arith, line_most (plant_line (F g) cs) r lb)

-- the bytes that an hour's lines have at most
unfoldable weight : Hour → ℕ
weight h = 89 * h.nsources + 49 * h.ndeliveries + 81 * h.ndirects

entry_weight : (h : Hour) (l : Line) (after : Hour) → line_ranged l ≡ true → line_labelled l ≡ true → Entry h l after → line_size l + weight h ≤ weight after
unfolding weight most fields.digits fields.digits_in
entry_weight h l after r lb (source x e t) = rw (← t.is) (omega (arith, subst (AtMost 89) e (source_most x.plant _) r lb))
entry_weight h l after r lb (delivery x e t) = rw (← t.is) (omega (arith, subst (AtMost 49) e (line_most (delivery_line x)) r lb))
entry_weight h l after r lb (direct x e t) = rw (← t.is) (omega (arith, subst (AtMost 81) e (line_most (direct_line h x)) r lb))

fed_weight : (ls : List Line) (h after : Hour) (rest : List ℕ) → all_labelled ls ≡ true → feed h ls ≡ accepted after
    → length (texts ls rest) + weight h ≤ weight after + length rest
unfolding reading.feed writing.texts writing.all_labelled
fed_weight [] h after rest lb e = rw (accepted_same h after e) (omega arith)
fed_weight (l ∷ ls) h after rest lb e =
    let a = then_passed (taken h l) (λ m. feed m ls) after e in
    let b = both_true (line_labelled l) (all_labelled ls) lb in
    let t = taken_passed h l a.mid a.first in
    omega (arith, line_length l (texts ls rest), entry_weight h l a.mid t.within b.0 t.entry, fed_weight ls a.mid after rest b.1 a.second)

-- The whole deck.

weight_most : (h : Hour) → Entries h → weight h ≤ 7008
unfolding weight
weight_most h g = omega (arith, g.sources.few, g.deliveries.few, g.directs.few)

head_most : (h : Hour) → line_ranged (head_line h) ≡ true → line_size (head_line h) ≤ 8
unfolding most fields.digits fields.digits_in lines.labelled
head_most h r = line_most (head_line h) r refl

pub own_at_most : (h : Hour) → OwnLines h → length (deck_text h) ≤ 7018
unfolding writing.deck_text
own_at_most h o =
    let w = fed_weight (body h) (started h.losses) h (line_text end_line []) o.labels o.fed in
    let g = own_entries h o in
    omega (arith, line_length (head_line h) (texts (body h) (line_text end_line [])), line_length end_line [], w, weight_most h g, head_most h (head_passed h (started h.losses) o.head).0)

pub valid_at_most : (h : Hour) → valid h ≡ true → length (deck_text h) ≤ 7018
valid_at_most h v = own_at_most h (valid_own h v)

pub accepted_at_most : (s : List ℕ) (h : Hour) → reading.reading s ≡ accepted h → length s ≤ 7018
accepted_at_most s h e =
    let st = reading_stands s h e in
    rw st.text (own_at_most h st.own)
