-- The records of a spreadsheet file as what is written one after another.
use Rattle.std.specs.Prelude.{◌≡◌, refl, Bool, true, false, List, [], ◌∷◌, ◌++◌, ℕ, zero, suc, ◌+◌, ◌-◌, ◌*◌, ◌≤◌, eqb, ℤ, pos, length, get_or, take, drop}
use Rattle.std.proofs.Common.{ap, ◌∙◌, append_assoc, arith, length-append, take_all}
use Rattle.rules.specs.Words.{when◌then◌else◌, text}
use Rattle.rules.specs.Fields.{digits, Chars}
use Rattle.rules.specs.Report.{ReportLine, hour, pair, internal, end, refusal}
use Rattle.rules.specs.Spreadsheet as sheet
use Rattle.rules.specs.Spreadsheet.{amount_fields, crlf, doubled, label_field, number_field, number_fields, unused, last_fields, record_text, header}
use Rattle.rules.specs.declared.InternalSequence.{InternalSequence}
use Rattle.write_fields.specs.Inked as inked
use Rattle.write_fields.specs.Inked.{Text, Front, front_byte, front_two, front_list, front_then, up_to, up_to_first}
use Rattle.write_fields.specs.Lengths.{digits_few}
use Rattle.write_amounts.specs.Amounts.{amounts_after, amounts_size, front_signed, front_amounts, amounts_first, amounts_size_lem, amounts_most}

-- a label's character, twice where it is a quote; and the one at an index of its bytes
abbrev pub doubled_text : ℕ → Text
doubled_text c = doubled (c ∷ [])

abbrev pub doubled_at : List ℕ → ℕ → Text
doubled_at bs i = doubled_text (get_or bs i 0)

-- a source's label and its amounts, which end a record
abbrev pub source_text : Chars → List ℤ → Text
source_text s zs rest = label_field s (last_fields zs rest)

-- the head that all records of a delivery share, and a record of a head's bytes
abbrev pub head_text : Chars → InternalSequence → Text
head_text d n rest = text "delivery" ++ label_field d (number_field (pos n.0) rest)

abbrev pub delivery_text : List ℕ → Chars → List ℤ → Text
delivery_text head s zs rest = head ++ source_text s zs rest

-- the header with its CRLF
abbrev pub header_text : Text
header_text rest = header ++ crlf rest

-- at most so many bytes have a label's field, a head, and a record's amounts with its end
abbrev pub most_label : ℕ
most_label = 35

abbrev pub most_head : ℕ
most_head = 8 + most_label + 21

abbrev pub most_last : ℕ
most_last = amount_fields * 22 + 2

-- Labels.

pub character_quote : (c : ℕ) → c ≡ 34 → (rest : List ℕ) → 34 ∷ 34 ∷ rest ≡ doubled_text c rest
unfolding sheet.doubled
character_quote c e rest = rw e

pub character_plain : (c : ℕ) → eqb c 34 ≡ false → (rest : List ℕ) → c ∷ rest ≡ doubled_text c rest
unfolding sheet.doubled
character_plain c e rest = rw e

pub front_character : (c : ℕ) → Front (doubled_text c)
unfolding sheet.doubled
front_character c = record { longer = λ rest. go (eqb c 34) rest }
  where
    go : (p : Bool) (rest : List ℕ) → length (when p then 34 ∷ 34 ∷ rest else c ∷ rest) ≡ length (when p then 34 ∷ 34 ∷ [] else c ∷ []) + length rest
    go true rest = omega arith
    go false rest = omega arith

pub front_doubled : (cs : Chars) → Front (doubled cs)
unfolding sheet.doubled
front_doubled [] = record { longer = λ rest. omega arith }
front_doubled (c ∷ cs) = front_then (front_character c) (front_doubled cs)

pub front_label : (cs : Chars) → Front (label_field cs)
front_label cs = front_then (front_two 44 34) (front_then (front_doubled cs) (front_byte 34))

-- the first n bytes, each in its turn
pub doubled_all : (n : ℕ) (bs : List ℕ) (rest : List ℕ) → up_to (doubled_at bs) (length (take n bs)) rest ≡ doubled (take n bs) rest
unfolding sheet.doubled inked.up_to
doubled_all zero bs rest = refl
doubled_all (suc n) [] rest = refl
doubled_all (suc n) (b ∷ bs) rest = up_to_first (doubled_at (b ∷ bs)) (length (take n bs)) rest ∙ ap (doubled_text b) (doubled_all n bs rest)

-- all of them
pub doubled_whole : {bs cs : Chars} → bs ≡ cs → (rest : List ℕ) → up_to (doubled_at bs) (length bs) rest ≡ doubled cs rest
doubled_whole {bs} e rest =
    let same : take (length bs) bs ≡ bs = take_all (length bs) bs (omega arith) in
    let each : up_to (doubled_at bs) (length bs) rest ≡ doubled bs rest = rw same at (doubled_all (length bs) bs rest) in
    each ∙ ap (λ (w : Chars). doubled w rest) e

-- before what comes after it
doubled_then : (cs : Chars) (rest w : List ℕ) → doubled cs rest ++ w ≡ doubled cs (rest ++ w)
unfolding sheet.doubled
doubled_then [] rest w = refl
doubled_then (c ∷ cs) rest w = go (eqb c 34) _ _ (doubled_then cs rest w)
  where
    go : (p : Bool) (x y : List ℕ) → x ++ w ≡ y → (when p then 34 ∷ 34 ∷ x else c ∷ x) ++ w ≡ (when p then 34 ∷ 34 ∷ y else c ∷ y)
    go true x y e = ap (λ (l : List ℕ). 34 ∷ 34 ∷ l) e
    go false x y e = ap (λ (l : List ℕ). c ∷ l) e

pub label_length : (cs : Chars) → length (label_field cs []) ≡ length (doubled cs []) + 3
label_length cs = omega (arith, (front_doubled cs).longer (34 ∷ []))

doubled_most : (cs : Chars) → length (doubled cs []) ≤ length cs * 2
unfolding sheet.doubled
doubled_most [] = omega arith
doubled_most (c ∷ cs) = go (eqb c 34) (doubled cs []) (doubled_most cs)
  where
    go : (p : Bool) (w : List ℕ) → length w ≤ length cs * 2 → length (when p then 34 ∷ 34 ∷ w else c ∷ w) ≤ suc (length cs) * 2
    go true w h = omega arith
    go false w h = omega arith

pub label_most : (cs : Chars) → length cs ≤ 16 → length (label_field cs []) ≤ most_label
label_most cs h = omega (arith, label_length cs, doubled_most cs)

-- Amounts.

-- numbers, each after its comma
pub numbers_after : (zs : List ℤ) (rest : List ℕ) → amounts_after 44 zs rest ≡ number_fields zs rest
unfolding sheet.number_fields inked.up_to
numbers_after [] rest = refl
numbers_after (z ∷ zs) rest = amounts_first 44 z zs rest ∙ ap (number_field z) (numbers_after zs rest)

front_unused : (n : ℕ) → Front (unused n)
unfolding sheet.unused
front_unused zero = record { longer = λ rest. omega arith }
front_unused (suc n) = front_then (front_byte 44) (front_unused n)

unused_length : (n : ℕ) (rest : List ℕ) → length (unused n rest) ≡ n + length rest
unfolding sheet.unused
unused_length zero rest = omega arith
unused_length (suc n) rest = omega (arith, unused_length n rest)

-- a comma for each field after the first n, and CRLF
abbrev pub ends_from : ℕ → List ℕ
ends_from n = take (6 - n) (drop n (text ",,,,\r\n"))

ends_from_lem : (n : ℕ) (rest : List ℕ) → n ≤ amount_fields → ends_from n ++ rest ≡ unused (amount_fields - n) (crlf rest)
unfolding sheet.unused
ends_from_lem zero rest h = refl
ends_from_lem (suc zero) rest h = refl
ends_from_lem (suc (suc zero)) rest h = refl
ends_from_lem (suc (suc (suc zero))) rest h = refl
ends_from_lem (suc (suc (suc (suc zero)))) rest h = refl
ends_from_lem (suc (suc (suc (suc (suc n))))) rest h = absurd (omega arith)

pub last_made : (zs : List ℤ) → length zs ≤ amount_fields → (rest : List ℕ) → amounts_after 44 zs (ends_from (length zs) ++ rest) ≡ last_fields zs rest
last_made zs h rest = ap (amounts_after 44 zs) (ends_from_lem (length zs) rest h) ∙ numbers_after zs (unused (amount_fields - length zs) (crlf rest))

front_numbers : (zs : List ℤ) → Front (number_fields zs)
unfolding sheet.number_fields
front_numbers [] = record { longer = λ rest. omega arith }
front_numbers (z ∷ zs) = front_then (front_signed 44 z) (front_numbers zs)

pub front_last : (zs : List ℤ) → Front (last_fields zs)
front_last zs = front_then (front_numbers zs) (front_then (front_unused (amount_fields - length zs)) (front_two 13 10))

pub last_length : (zs : List ℤ) → length (last_fields zs []) ≡ amounts_size zs + (amount_fields - length zs) + 2
last_length zs =
    let w = unused (amount_fields - length zs) (crlf []) in
    omega (arith, ap length (numbers_after zs w), (front_amounts 44 zs).longer w, amounts_size_lem 44 zs, unused_length (amount_fields - length zs) (crlf []))

pub last_most : (zs : List ℤ) → length zs ≤ amount_fields → amounts_size zs + (amount_fields - length zs) + 2 ≤ most_last
last_most zs h = omega (arith, amounts_most zs)

-- Records.

pub front_source : (s : Chars) (zs : List ℤ) → Front (source_text s zs)
front_source s zs = front_then (front_label s) (front_last zs)

pub front_head : (d : Chars) (n : InternalSequence) → Front (head_text d n)
front_head d n = front_then (front_list (text "delivery")) (front_then (front_label d) (front_signed 44 (pos n.0)))

pub front_delivery : (head : List ℕ) (s : Chars) (zs : List ℤ) → Front (delivery_text head s zs)
front_delivery head s zs = front_then (front_list head) (front_source s zs)

pub front_header : Front header_text
front_header = front_then (front_list header) (front_two 13 10)

pub header_made : (rest : List ℕ) → text "kind,delivery,number,source,n1,n2,n3,n4\r\n" ++ rest ≡ header_text rest
header_made rest = refl

pub hour_made : (zs : List ℤ) (rest : List ℕ) → text "hour,,," ++ last_fields zs rest ≡ record_text (hour zs) rest
unfolding sheet.record_text sheet.unused
hour_made zs rest = refl

-- a head's bytes before what comes after them
head_then : (d : Chars) (n : InternalSequence) (w : List ℕ) → head_text d n [] ++ w ≡ head_text d n w
head_then d n w =
    ap (λ (l : List ℕ). text "delivery,\"" ++ l)
    (doubled_then d (34 ∷ 44 ∷ digits n.0 ++ []) w ∙ ap (λ (l : List ℕ). doubled d (34 ∷ 44 ∷ l)) (append_assoc (digits n.0) [] w))

pub delivery_made : (d : Chars) (n : InternalSequence) (s : Chars) (zs : List ℤ) (rest : List ℕ) → delivery_text (head_text d n []) s zs rest ≡ record_text (pair d (pos n.0) s zs) rest
unfolding sheet.record_text
delivery_made d n s zs rest = head_then d n (source_text s zs rest)

pub internal_made : (s : Chars) (zs : List ℤ) (rest : List ℕ) → text "internal,," ++ source_text s zs rest ≡ record_text (internal s zs) rest
unfolding sheet.record_text sheet.unused
internal_made s zs rest = refl

pub end_made : (rest : List ℕ) → text "end,,,,,,,\r\n" ++ rest ≡ record_text end rest
unfolding sheet.record_text sheet.unused sheet.number_fields
end_made rest = refl

pub front_record : (l : ReportLine) → Front (record_text l)
unfolding sheet.record_text
front_record (hour zs) = front_then (front_list (text "hour")) (front_then (front_unused 3) (front_last zs))
front_record (pair d z s zs) = front_then (front_list (text "delivery")) (front_then (front_label d) (front_then (front_signed 44 z) (front_source s zs)))
front_record (internal s zs) = front_then (front_list (text "internal")) (front_then (front_unused 2) (front_source s zs))
front_record end = front_then (front_list (text "end")) (front_then (front_unused 3) (front_last []))
front_record (refusal n p) = front_list []

-- Lengths: of a record as the sum of its pieces'.

pub head_most : (d : Chars) (n : InternalSequence) → length d ≤ 16 → length (head_text d n []) ≤ most_head
head_most d n h = omega (arith, label_most d h, (front_label d).longer (number_field (pos n.0) []), length-append (digits n.0) [], digits_few n.0)

pub source_length : (s : Chars) (zs : List ℤ) → length (source_text s zs []) ≡ length (label_field s []) + length (last_fields zs [])
source_length s zs = (front_label s).longer (last_fields zs [])

pub delivery_length : (head : List ℕ) (s : Chars) (zs : List ℤ) → length (delivery_text head s zs []) ≡ length head + length (source_text s zs [])
delivery_length head s zs = length-append head (source_text s zs [])
