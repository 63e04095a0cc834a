-- A written record is read back, and a record that is read was written.
--     record_stood     where a line is read, it fits and its record stands up to the next place
use Rattle.std.specs.Prelude.{◌≡◌, Bool, ℕ, zero, suc, ◌+◌, ◌-◌, ◌<◌, ◌≤◌, eqb, ℤ, length, drop}
use Rattle.std.proofs.Math.Path.{refl, ap, subst}
use Rattle.std.proofs.Common.{sym, ◌∙◌, arith, eqb-true, eq-eqb}
use Rattle.std.proofs.Math.Bool.{true, false}
use mathlib.Core.List.{List, [], ◌∷◌, ◌++◌}
use Rattle.rules.specs.Words.{when◌then◌else◌, text}
use Rattle.rules.specs.Fields.{got, byte, byte_at}
use Rattle.rules.specs.Report.{ReportLine, hour, pair, internal, end, signed_text}
use Rattle.rules.specs.Spreadsheet as spreadsheet
use Rattle.rules.specs.Spreadsheet.{amount_fields, hour_count, pair_count, open_count, crlf, label_field, number_field, number_fields, unused, last_fields, record_text, fits64, all_fit, amounts_fit, line_fits, text_at, label_at, signed_at, number_field_at, listed, numbers_at, last_fields_at, hour_at, delivery_at, internal_at, end_at, record_at}
use Rattle.laws.specs.Choices.{both_true, field_passed}
use Rattle.laws.specs.Lists.{drop_past, drop_past_one}
use Rattle.roundtrip.specs.Numbers.{Stops}
use Rattle.roundtrip.specs.Fields.{byte_read, byte_stood}
use Rattle.file_roundtrip.specs.Standing.{Reads, reads_then, Standing, standing_then, standing_some, pushed_passed, no_zero, text_read, text_stood}
use Rattle.file_roundtrip.specs.SignedNumbers.{signed_read, signed_stood}
use Rattle.file_roundtrip.specs.QuotedLabels.{Unquoted, label_stood}

-- What comes after a field.

-- neither a digit nor a quote stands first
pub record Parted (l : List ℕ) : Type 0 where
  pub stops : Stops l
  pub unquoted : Unquoted l

unused_parted : (n : ℕ) (rest : List ℕ) → Parted (unused n (crlf rest))
unfolding spreadsheet.unused
unused_parted zero rest = record { stops = refl; unquoted = refl }
unused_parted (suc n) rest = record { stops = refl; unquoted = refl }

numbers_parted : (zs : List ℤ) (rest : List ℕ) → Parted rest → Parted (number_fields zs rest)
unfolding spreadsheet.number_fields
numbers_parted [] rest p = p
numbers_parted (z ∷ zs) rest p = record { stops = refl; unquoted = refl }

pub last_parted : (zs : List ℤ) (rest : List ℕ) → Parted (last_fields zs rest)
last_parted zs rest = numbers_parted zs (unused (amount_fields - length zs) (crlf rest)) (unused_parted (amount_fields - length zs) rest)

-- Numbers after their commas.

pub number_field_read : (z : ℤ) (s rest : List ℕ) (at : ℕ) → fits64 z ≡ true → Stops rest → drop at s ≡ number_field z rest → Reads s (number_field_at s at) z rest
unfolding spreadsheet.number_field_at
number_field_read z s rest at f stop e =
    let w = signed_text z in
    let c = drop_past_one s (w ++ rest) at 44 e in
    record {
      next = at + 1 + length w;
      is = rw (byte_read s (w ++ rest) at 44 e) (signed_read z s rest (at + 1) f c stop);
      past = drop_past s w rest (at + 1) c;
    }

number_field_stood : (z : ℤ) (s : List ℕ) (at next : ℕ) → number_field_at s at ≡ got z next → (fits64 z ≡ true) × Standing s at next (number_field z)
unfolding spreadsheet.number_field_at
number_field_stood z s at next e =
    let p = field_passed (byte_at s at 44) (λ u p. signed_at s p) z next e in
    let b = byte_stood s at 44 p.place (omega arith) p.first in
    let t = signed_stood z s p.place next p.second in
    (t.fits, record { text = b.0 ∙ ap (λ (l : List ℕ). 44 ∷ l) t.text; later = omega (arith, b.1, t.behind); within = λ h. t.within })

numbers_read : (zs : List ℤ) (s rest : List ℕ) (at : ℕ) → all_fit zs ≡ true → Parted rest → drop at s ≡ number_fields zs rest
    → Reads s (numbers_at (length zs) s at) zs rest
unfolding spreadsheet.number_fields spreadsheet.numbers_at spreadsheet.all_fit
numbers_read [] s rest at f p e = record { next = at; is = refl; past = e }
numbers_read (z ∷ zs) s rest at f p e =
    let b = both_true (fits64 z) (all_fit zs) f in
    let w = number_fields zs rest in
    reads_then s (number_field_at s at) _ z (z ∷ zs) w rest (number_field_read z s w at b.0 (numbers_parted zs rest p).stops e) λ m me.
    let r = numbers_read zs s rest m b.1 p me in
    record { next = r.next; is = rw r.is; past = r.past }

record NumbersStood (n : ℕ) (zs : List ℤ) (s : List ℕ) (at next : ℕ) : Type 0 where
  count : length zs ≡ n
  fit : all_fit zs ≡ true
  stands : Standing s at next (number_fields zs)

numbers_stood : (n : ℕ) (zs : List ℤ) (s : List ℕ) (at next : ℕ) → numbers_at n s at ≡ got zs next → NumbersStood n zs s at next
unfolding spreadsheet.number_fields spreadsheet.numbers_at spreadsheet.all_fit
numbers_stood zero zs s at next e =
    let k : at ≡ next = cc in
    let z : [] ≡ zs = cc in
    subst (λ (zs : List ℤ). NumbersStood 0 zs s at next) z
    (record { count = refl; fit = refl; stands = record { text = ap (λ (n : ℕ). drop n s) k; later = omega arith; within = λ h. omega arith } })
numbers_stood (suc n) zs s at next e =
    let p = field_passed (number_field_at s at) (λ z p. listed z (numbers_at n s p)) zs next e in
    let l = pushed_passed (listed p.mid) p.mid (λ t n. refl) refl (numbers_at n s p.place) zs next p.second in
    let f = number_field_stood p.mid s at p.place p.first in
    let t = numbers_stood n l.tail s p.place next l.is in
    subst (λ (zs : List ℤ). NumbersStood (suc n) zs s at next) l.whole
    (record {
      count = ap suc t.count;
      fit = rw f.0 t.fit;
      stands = standing_then s at p.place next (number_field p.mid) (number_fields l.tail) f.1 t.stands;
    })

-- A record's amounts and its end.

unused_append : (n : ℕ) (rest : List ℕ) → unused n (crlf rest) ≡ unused n (crlf []) ++ rest
unfolding spreadsheet.unused
unused_append zero rest = refl
unused_append (suc n) rest = ap (λ (l : List ℕ). 44 ∷ l) (unused_append n rest)

unused_no_zero : (n : ℕ) → no_zero (unused n (crlf [])) ≡ true
unfolding spreadsheet.unused
unused_no_zero zero = refl
unused_no_zero (suc n) = unused_no_zero n

pub last_read : (n : ℕ) (zs : List ℤ) (s rest : List ℕ) (at : ℕ) → amounts_fit n zs ≡ true → drop at s ≡ last_fields zs rest → Reads s (last_fields_at n s at) zs rest
unfolding spreadsheet.last_fields_at
last_read n zs s rest at f e =
    let b = both_true (eqb (length zs) n) (all_fit zs) f in
    let c : length zs ≡ n = eqb-true (length zs) n b.0 in
    let k = amount_fields - length zs in
    let w = unused k (crlf rest) in
    rw (← c)
    (reads_then s (numbers_at (length zs) s at) _ zs zs w rest (numbers_read zs s w at b.1 (unused_parted k rest) e) λ p pe.
    reads_then s (text_at s p (unused k (crlf []))) _ tt zs rest rest (text_read (unused k (crlf [])) s rest p (pe ∙ unused_append k rest)) λ q qe.
    record { next = q; is = refl; past = qe })

record LastStood (n : ℕ) (zs : List ℤ) (s : List ℕ) (at next : ℕ) : Type 0 where
  fit : amounts_fit n zs ≡ true
  stands : Standing s at next (last_fields zs)

last_stood : (n : ℕ) (zs : List ℤ) (s : List ℕ) (at next : ℕ) → last_fields_at n s at ≡ got zs next → LastStood n zs s at next
unfolding spreadsheet.last_fields_at
last_stood n zs s at next e =
    let w = unused (amount_fields - n) (crlf []) in
    let p = field_passed (numbers_at n s at) _ zs next e in
    let q = field_passed (text_at s p.place w) _ zs next p.second in
    let same = q.second in
    let is : p.mid ≡ zs = cc in
    let k : q.place ≡ next = cc in
    let t = numbers_stood n zs s at p.place (p.first ∙ ap (λ (zs : List ℤ). got zs p.place) is) in
    let u = text_stood w s p.place next (unused_no_zero (amount_fields - n)) (q.first ∙ ap (got tt) k) in
    record {
      fit = rw (eq-eqb (length zs) n t.count) t.fit;
      stands = subst (λ (m : ℕ). Standing s at next (λ rest. number_fields zs (unused (amount_fields - m) (crlf rest)))) (sym t.count)
          (standing_then s at p.place next (number_fields zs) (λ rest. unused (amount_fields - n) (crlf rest)) t.stands
          (record { text = u.text ∙ sym (unused_append (amount_fields - n) (drop next s)); later = u.later; within = u.within }));
    }

-- A record that is read was written.

pub record RecordStood (l : ReportLine) (s : List ℕ) (at next : ℕ) : Type 0 where
  pub fits : line_fits l ≡ true
  pub text : drop at s ≡ record_text l (drop next s)
  pub later : at < next
  pub within : next ≤ length s

no_amounts : (zs : List ℤ) → amounts_fit 0 zs ≡ true → zs ≡ []
no_amounts [] f = refl
no_amounts (z ∷ zs) f = absurd (omega (arith, eqb-true (suc (length zs)) 0 (both_true (eqb (suc (length zs)) 0) (all_fit (z ∷ zs)) f).0))

module _ (s : List ℕ) (at : ℕ) where
  -- a record of a kind, with what comes after that
  kind_stood : (w : List ℕ) (l : ReportLine) (p next : ℕ) (u : List ℕ → List ℕ) → no_zero w ≡ true → 1 ≤ length w → text_at s at w ≡ got tt p → Standing s p next u
      → line_fits l ≡ true → ((rest : List ℕ) → w ++ u rest ≡ record_text l rest) → RecordStood l s at next
  kind_stood w l p next u z h e v f same =
      let t = text_stood w s at p z e in
      let m = standing_some s w at p h t in
      record {
        fits = f;
        text = t.text ∙ ap (λ (x : List ℕ). w ++ x) v.text ∙ same (drop next s);
        later = omega (arith, m.0, v.later);
        within = v.within (t.within (omega (arith, m.1)));
      }

  hour_stood : (l : ReportLine) (next : ℕ) → hour_at s at ≡ got l next → RecordStood l s at next
  unfolding spreadsheet.record_text spreadsheet.unused spreadsheet.hour_at
  hour_stood l next e =
      let p = field_passed (text_at s at (text "hour,,,")) _ l next e in
      let q = field_passed (last_fields_at hour_count s p.place) _ l next p.second in
      let same = q.second in
      let is : hour q.mid ≡ l = cc in
      let k : q.place ≡ next = cc in
      let t = last_stood hour_count q.mid s p.place next (q.first ∙ ap (got q.mid) k) in
      subst (λ (l : ReportLine). RecordStood l s at next) is
      (kind_stood (text "hour,,,") (hour q.mid) p.place next (last_fields q.mid) refl (omega arith) p.first t.stands t.fit (λ rest. refl))

  delivery_stood : (l : ReportLine) (next : ℕ) → delivery_at s at ≡ got l next → RecordStood l s at next
  unfolding spreadsheet.record_text spreadsheet.delivery_at
  delivery_stood l next e =
      let p = field_passed (text_at s at (text "delivery")) _ l next e in
      let q = field_passed (label_at s p.place) _ l next p.second in
      let r = field_passed (number_field_at s q.place) _ l next q.second in
      let m = field_passed (label_at s r.place) _ l next r.second in
      let n = field_passed (last_fields_at pair_count s m.place) _ l next m.second in
      let same = n.second in
      let is : pair q.mid r.mid m.mid n.mid ≡ l = cc in
      let k : n.place ≡ next = cc in
      let delivery = label_stood q.mid s p.place q.place q.first in
      let number = number_field_stood r.mid s q.place r.place r.first in
      let source = label_stood m.mid s r.place m.place m.first in
      let last = last_stood pair_count n.mid s m.place next (n.first ∙ ap (got n.mid) k) in
      let from_source = standing_then s r.place m.place next (label_field m.mid) (last_fields n.mid) source.1 last.stands in
      let from_number = standing_then s q.place r.place next (number_field r.mid) _ number.1 from_source in
      let from_delivery = standing_then s p.place q.place next (label_field q.mid) _ delivery.1 from_number in
      subst (λ (l : ReportLine). RecordStood l s at next) is
      (kind_stood (text "delivery") (pair q.mid r.mid m.mid n.mid) p.place next _ refl (omega arith) p.first from_delivery
      (rw (delivery.0, number.0, source.0) last.fit) (λ rest. refl))

  internal_stood : (l : ReportLine) (next : ℕ) → internal_at s at ≡ got l next → RecordStood l s at next
  unfolding spreadsheet.record_text spreadsheet.unused spreadsheet.internal_at
  internal_stood l next e =
      let p = field_passed (text_at s at (text "internal,,")) _ l next e in
      let q = field_passed (label_at s p.place) _ l next p.second in
      let r = field_passed (last_fields_at open_count s q.place) _ l next q.second in
      let same = r.second in
      let is : internal q.mid r.mid ≡ l = cc in
      let k : r.place ≡ next = cc in
      let source = label_stood q.mid s p.place q.place q.first in
      let last = last_stood open_count r.mid s q.place next (r.first ∙ ap (got r.mid) k) in
      let from_source = standing_then s p.place q.place next (label_field q.mid) (last_fields r.mid) source.1 last.stands in
      subst (λ (l : ReportLine). RecordStood l s at next) is
      (kind_stood (text "internal,,") (internal q.mid r.mid) p.place next _ refl (omega arith) p.first from_source (rw source.0 last.fit) (λ rest. refl))

  end_stood : (l : ReportLine) (next : ℕ) → end_at s at ≡ got l next → RecordStood l s at next
  unfolding spreadsheet.record_text spreadsheet.unused spreadsheet.end_at
  end_stood l next e =
      let p = field_passed (text_at s at (text "end,,,")) _ l next e in
      let q = field_passed (last_fields_at 0 s p.place) _ l next p.second in
      let same = q.second in
      let is : end ≡ l = cc in
      let k : q.place ≡ next = cc in
      let t = last_stood 0 q.mid s p.place next (q.first ∙ ap (got q.mid) k) in
      let v = subst (λ (zs : List ℤ). Standing s p.place next (last_fields zs)) (no_amounts q.mid t.fit) t.stands in
      subst (λ (l : ReportLine). RecordStood l s at next) is (kind_stood (text "end,,,") end p.place next (last_fields []) refl (omega arith) p.first v refl (λ rest. refl))

  pub record_stood : (l : ReportLine) (next : ℕ) → record_at s at ≡ got l next → RecordStood l s at next
  unfolding spreadsheet.record_at
  record_stood l next e = go (eqb (byte s at) 104) (eqb (byte s at) 100) (eqb (byte s at) 105) e
    where
      go : (h d i : Bool) → (when h then hour_at s at else when d then delivery_at s at else when i then internal_at s at else end_at s at) ≡ got l next → RecordStood l s at next
      go true d i e = hour_stood l next e
      go false true i e = delivery_stood l next e
      go false false true e = internal_stood l next e
      go false false false e = end_stood l next e
