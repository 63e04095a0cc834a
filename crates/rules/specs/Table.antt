-- Document 01, "Hours to try": the cases marked *, the printed hour and further cases, by one statement over one table.
use Rattle.std.specs.Prelude.{Bool, true, false, not, ◌&&◌, List, [], ◌∷◌, ◌++◌, ◌≡◌, refl, ℕ, ◌+◌, ◌-◌, eqb, length, replicate, set, ℤ, pos, negsuc, neg_ℤ}
use Prim.Native.String.{String}
use Rattle.rules.specs.Words.{sum_to, list_to, all_to, any_to, is_none, find_to, same_list, text}
use Rattle.rules.specs.Refusals.{Outcome, accepted, refused, number_of, place_of, and_then}
use Rattle.rules.specs.Units.{curve_cost, cost, curve_made, cost_asked}
use Rattle.rules.specs.Sequences.{no_label, matches, rule_a, rule_b, rule_c, rule_d, rule_e, placed, numbered}
use Rattle.rules.specs.Group.{changed, directed, group_line, group_lines, room, unit_room, better, next, move, plain, headroom, to_emergency, unload, credit, remainder, up_to}
use Rattle.rules.specs.Hour.{or_none, keys, in_turn, turns, share, shared, rest, group, groups, reconstructed, cells_of, answer}
use Rattle.rules.specs.Fields.{byte_at, run, number_at, digits_in, digits, escape, unescape, closing, label_end, all_characters, is_label, spaced_number, spaced_label, basis_at, spaced_basis}
use Rattle.rules.specs.Lines.{fields_at, seen, written, ranged, labelled, letter_of, places_at, line_at, line_text}
use Rattle.rules.specs.Record.{same_label, label_of, started, body}
use Rattle.rules.specs.Reading.{taken, feed, headed, finished, on_line, lines_from, reading}
use Rattle.rules.specs.Writing.{texts, deck_text, same_by, same_hour, all_labelled, given, valid}
use Rattle.rules.specs.Calls.{cells_for, writing, reconstruction, leaves, source_part, delivery_part}
use Rattle.rules.specs.Places.{past, line_start, label_start, labelling}
use Rattle.rules.specs.Report.{hour_lines, report_lines, amounts_text, report_text, report_texts, report}
use Rattle.rules.specs.declared.HeatCurve.{HeatCurve}
use Rattle.rules.specs.declared.Plant.{Plant}
use Rattle.rules.specs.declared.Plant.TheVariants.{Unit, Fixed}
use Rattle.rules.specs.declared.Basis.TheVariants.{Low}
use Rattle.rules.specs.declared.Delivery.{Delivery}
use Rattle.rules.specs.declared.Hour.{Hour}
use Rattle.rules.specs.declared.Refusal.TheVariants.{Form}

-- the bytes of a deck's or a report's lines
abbrev lines : List String → List ℕ
lines [] = []
lines (l ∷ ls) = text l ++ (10 ∷ lines ls)

-- a deck without losses
abbrev deck : List String → List ℕ
deck ls = text "H 0\n" ++ (lines ls ++ text "E\n")

-- What a row may say.

pub data Case : Type 0 where
  costs : Plant → (m grains : ℕ) → Case  -- W(m)
  last_costs : Plant → (m grains : ℕ) → Case  -- the m-th MWh
  outside : HeatCurve → (m : ℕ) → Case  -- a curve or a level that is refused with 3, place 0
  places : List Delivery → Delivery → (number : ℕ) → Case  -- the internal number that a delivery gets among others
  different : String → String → Case  -- two labels
  unlabelled : String → Case  -- a text that is no label
  gives : (deck : List ℕ) → (cells : List ℤ) → Case
  prints : (deck report : List ℕ) → Case
  refuses : (deck : List ℕ) → (number place : ℕ) → Case
  overfull : (deck : List ℕ) → (Hour → Hour) → (line : List ℕ) → (number place : ℕ) → Case  -- a deck's hour with a class filled to 32 entries, and a line more
  ungiven : (deck : List ℕ) → (Hour → Hour) → Case  -- a deck's hour so changed that no deck gives it: 15, before 14
  leaves_cells : (deck : List ℕ) → (buffer after : List ℤ) → Case
  leaves_bytes : (deck buffer after : List ℕ) → Case
  has_parts : (deck source delivery : List ℕ) → Case  -- the first source's label and the first delivery's
  leaves_places : (deck buffer after : List ℕ) → Case  -- the places of all labels

sameℤ : ℤ → ℤ → Bool
sameℤ (pos x) (pos y) = eqb x y
sameℤ (pos x) (negsuc y) = false
sameℤ (negsuc x) (pos y) = false
sameℤ (negsuc x) (negsuc y) = eqb x y

same_cells : List ℤ → List ℤ → Bool
same_cells [] [] = true
same_cells [] (y ∷ ys) = false
same_cells (x ∷ xs) [] = false
same_cells (x ∷ xs) (y ∷ ys) = sameℤ x y && same_cells xs ys

accepts : {A : Type 0} → (A → Bool) → Outcome A → Bool
accepts right (accepted a) = right a
accepts right (refused r) = false

is_refused : {A : Type 0} → ℕ → ℕ → Outcome A → Bool
is_refused number place (accepted a) = false
is_refused number place (refused r) = eqb (number_of r) number && eqb (place_of r) place

-- a deck that is read is written back, and its hour is one that some deck gives
writes_back : List ℕ → Outcome Hour → Bool
writes_back s (accepted h) = same_list (deck_text h) s && valid h
writes_back s (refused r) = true

right : Case → Bool
right (costs p m x) = eqb (cost p m) x
right (last_costs p m x) = eqb (cost p m - cost p (m - 1)) x
right (outside c m) = is_refused 3 0 (and_then (curve_made c) λ made. cost_asked made m)
right (places ts t x) = eqb (or_none (numbered (t ∷ ts) (length (t ∷ ts)) t)).0 x
right (different a b) = not (same_label (label_of (text a)) (label_of (text b)))
right (unlabelled a) = is_none (label_end (text a))
right (gives s xs) = accepts (same_cells xs) (and_then (reading s) answer)
right (prints s t) = same_list (report s) t && writes_back s (reading s)
right (refuses s number place) = is_refused number place (and_then (reading s) answer) && same_list (report s) (text "refused " ++ (digits number ++ (32 ∷ digits place ++ (10 ∷ []))))
right (overfull s fill l number place) = accepts (λ h. is_refused number place (on_line (line_at l 0) (Form 0) λ x next. taken (fill h) x)) (reading s)
right (ungiven s change) = accepts (λ h. is_refused 15 0 (reconstruction (change h) 0) && is_refused 15 0 (writing (change h) 0)) (reading s)
right (leaves_cells s buffer after) = accepts (λ h. same_cells (leaves (reconstruction h (length buffer)) buffer) after) (reading s)
right (leaves_bytes s buffer after) = accepts (λ h. same_list (leaves (writing h (length buffer)) buffer) after) (reading s)
right (has_parts s x y) = same_list (source_part s 0) x && same_list (delivery_part s 0) y
right (leaves_places s buffer after) = same_list (leaves (labelling s (length buffer)) buffer) after

pub all_right : List Case → Bool
all_right [] = true
all_right (c ∷ cs) = right c && all_right cs

-- The rows' common parts.

curve : (k a b c r : ℕ) → HeatCurve
curve k a b c r = record { k = k; a = a; b = b; c = c; r = r }

u1 : Plant
u1 = Unit (record { g = 100; h = 120; n = 40; o = 30; e = 20; curve = curve 20 50_000 9000 10 10_000 })

u1_line : String
u1_line = "U 100 120 40 30 20 20 50000 9000 10 10000 \"U1\""

p1_line : String
p1_line = "P 30 95000 \"P1\""

x_line : String
x_line = "T 30 1 1 60 \"X\""

delivery : (sequence type block : ℕ) → Delivery
delivery s t b = record { sequence = record { 0 = s }; kind = t; block = b; mwh = 5; label = no_label }

-- sequences 30, 28, 27 of type 1 and one block
three : ℕ → List Delivery
three b = delivery 30 1 b ∷ delivery 28 1 b ∷ delivery 27 1 b ∷ []

printed : List ℕ
printed = lines ("H 10" ∷ u1_line ∷ p1_line ∷ x_line ∷ "T 28 1 1 20 \"X \"" ∷ "D 30 50 \"U1\" \"X \"" ∷ "E" ∷ [])

-- "Same sources, one T .., `D 30 100`"
credit_of : String → List ℕ
credit_of t = lines ("H 10" ∷ u1_line ∷ p1_line ∷ t ∷ "D 30 100 \"U1\" \"X\"" ∷ "E" ∷ [])

-- n sources with one label each
many_sources : ℕ → List ℕ
many_sources n = text "H 0\n" ++ (list_to (λ i. text "F 1 \"" ++ ((35 + i) ∷ 34 ∷ 10 ∷ [])) n ++ text "E\n")

-- with 32 T lines or D lines: reading so many would take the checker beyond its steps
many_deliveries : Hour → Hour
many_deliveries h =
    record {
      losses = h.losses;
      nsources = h.nsources;
      ndeliveries = 32;
      ndirects = h.ndirects;
      sources = h.sources;
      deliveries = h.deliveries;
      directs = h.directs;
    }

many_directs : Hour → Hour
many_directs h =
    record {
      losses = h.losses;
      nsources = h.nsources;
      ndeliveries = h.ndeliveries;
      ndirects = 32;
      sources = h.sources;
      deliveries = h.deliveries;
      directs = h.directs;
    }

losing : ℕ → Hour → Hour
losing l h =
    record {
      losses = l;
      nsources = h.nsources;
      ndeliveries = h.ndeliveries;
      ndirects = h.ndirects;
      sources = h.sources;
      deliveries = h.deliveries;
      directs = h.directs;
    }

-- with another last entry
last_source : Plant → List ℕ → Hour → Hour
last_source p bytes h =
    record {
      losses = h.losses;
      nsources = h.nsources;
      ndeliveries = h.ndeliveries;
      ndirects = h.ndirects;
      sources = set h.sources 31 (record { plant = p; label = record { len = 0; bytes = bytes } });
      deliveries = h.deliveries;
      directs = h.directs;
    }

last_direct : ℕ → Hour → Hour
last_direct percent h =
    record {
      losses = h.losses;
      nsources = h.nsources;
      ndeliveries = h.ndeliveries;
      ndirects = h.ndirects;
      sources = h.sources;
      deliveries = h.deliveries;
      directs = set h.directs 31 (record { basis = Low; percent = percent; source = 0; delivery = 0 });
    }

-- a small hour of six cells
six_cells : List ℕ
six_cells = deck ("P 5 1 \"P\"" ∷ "T 1 1 1 2 \"X\"" ∷ [])

-- a deck whose D line mentions a unit and a delivery
mentioned : List ℕ
mentioned = deck ("U 2 2 1 1 1 1 0 0 0 0 \"U\"" ∷ "F 1 \"\\\"\"" ∷ "T 1 1 1 1 \"U\"" ∷ "D 1 50 \"U\" \"U\"" ∷ [])

-- an hour that meets 12 after its first group
twelve : List ℕ
twelve = deck ("U 8 8 7 6 5 3 3 1 1 3 \"U\"" ∷ "T 2 1 1 1 \"A\"" ∷ "T 1 1 2 5 \"X\"" ∷ "D L 1 \"U\" \"X\"" ∷ [])

pub table : List Case
table =
    -- The cases marked *.
    costs u1 20 4_640_000_000 ∷
    costs u1 10 2_320_000_000 ∷
    costs u1 50 10_250_000_000 ∷
    costs u1 100 20_000_000_000 ∷
    last_costs u1 51 190_100_000 ∷
    last_costs u1 50 189_900_000 ∷
    places (three 2) (delivery 0 1 2) 269 ∷
    places (three 1) (delivery 0 1 2) 301 ∷
    places (three 3) (delivery 0 1 2) 269 ∷
    places (three 4) (delivery 0 1 2) 269 ∷
    places (three 4) (delivery 0 1 1) 269 ∷
    places (three 2) (delivery 0 2 2) 269 ∷
    different "X" "X " ∷
    unlabelled "\"X\\\"" ∷
    gives (credit_of "T 30 1 1 10 \"X\"")
    (pos 30 ∷ neg_ℤ (pos 20) ∷ pos 6_490_000_000 ∷ neg_ℤ (pos 4_040_000_000) ∷ pos 0 ∷ pos 0 ∷ pos 0 ∷ pos 0 ∷
    pos 90 ∷ pos 17_550_000_000 ∷ pos 30 ∷ pos 5_700_000_000 ∷ []) ∷
    refuses (credit_of "T 30 1 1 9 \"X\"") 13 300 ∷
    -- The printed hour, and the hour of nothing.
    prints printed
    (lines
    ("hour 130 10 80 40" ∷
    "\"X\" 300 \"U1\" 0 50 9750000000" ∷
    "\"X\" 300 \"P1\" 0 10 1900000000" ∷
    "\"X \" 280 \"U1\" 15 0 3245000000" ∷
    "\"X \" 280 \"P1\" 0 5 950000000" ∷
    "internal \"U1\" 35 7005000000" ∷
    "internal \"P1\" 15 2850000000" ∷
    "end" ∷ [])) ∷
    prints (lines ("H 0" ∷ "E" ∷ [])) (lines ("hour 0 0 0 0" ∷ "end" ∷ [])) ∷
    -- Sequence numbers: a) and d) where another rule would say otherwise; b) looks at the next block alone, not round to 1, and c) not round to 9
    places (delivery 30 1 2 ∷ delivery 20 1 3 ∷ []) (delivery 0 1 2) 299 ∷
    places (delivery 30 1 4 ∷ delivery 5 2 1 ∷ []) (delivery 0 1 1) 299 ∷
    places (delivery 30 1 5 ∷ delivery 5 1 1 ∷ []) (delivery 0 1 3) 49 ∷
    places (delivery 30 1 1 ∷ delivery 5 1 3 ∷ []) (delivery 0 1 9) 49 ∷
    places (delivery 30 1 9 ∷ delivery 5 1 3 ∷ []) (delivery 0 1 1) 49 ∷
    -- Units: W below k is rounded down; a coefficient or a level outside its range.
    costs (Unit (record { g = 9; h = 9; n = 9; o = 9; e = 9; curve = curve 3 1 1 1 1 })) 1 5 ∷
    outside (curve 0 0 0 0 0) 0 ∷
    outside (curve 1 1_000_000 0 0 0) 0 ∷
    outside (curve 1 0 100_000 0 0) 0 ∷
    outside (curve 1 0 0 100 0) 0 ∷
    outside (curve 1 0 0 0 39_997) 0 ∷
    outside (curve 1 0 0 0 0) 2001 ∷
    -- Reading, refusal by refusal.
    -- 1
    refuses (replicate 8193 72) 1 0 ∷
    -- 2: no line; E, LF or a line missing; a line after E; lines out of order; not of their form
    refuses [] 2 1 ∷
    refuses (replicate 8192 72) 2 1 ∷
    refuses (text "H 0\nE") 2 2 ∷
    refuses (lines ("H 0" ∷ [])) 2 2 ∷
    refuses (deck ("E" ∷ [])) 2 3 ∷
    refuses (text "H 0\nE\n ") 2 3 ∷
    refuses (lines ("E" ∷ [])) 2 1 ∷
    refuses (deck ("H 0" ∷ [])) 2 2 ∷
    refuses (deck (x_line ∷ u1_line ∷ [])) 2 3 ∷
    refuses (deck (u1_line ∷ x_line ∷ "D L 50 \"U1\" \"X\"" ∷ "T 100 1 1 1 \"Y\"" ∷ [])) 2 5 ∷
    refuses (lines ("H 00" ∷ "E" ∷ [])) 2 1 ∷
    refuses (lines ("H 05" ∷ "E" ∷ [])) 2 1 ∷
    refuses (lines ("H  5" ∷ "E" ∷ [])) 2 1 ∷
    refuses (lines ("H 5 " ∷ "E" ∷ [])) 2 1 ∷
    refuses (lines ("H -5" ∷ "E" ∷ [])) 2 1 ∷
    refuses (deck ("F 1 \"\"" ∷ [])) 2 2 ∷
    refuses (deck ("F 1 \"12345678901234567\"" ∷ [])) 2 2 ∷
    refuses (deck ("F 1 \"\\n\"" ∷ [])) 2 2 ∷
    refuses (deck ("F 1 \"X\\\"" ∷ [])) 2 2 ∷
    refuses (lines ("H 0" ∷ []) ++ (text "F 1 \"" ++ (127 ∷ 34 ∷ 10 ∷ lines ("E" ∷ [])))) 2 2 ∷
    refuses (text "H 0" ++ (13 ∷ 10 ∷ lines ("E" ∷ []))) 2 1 ∷
    -- 3, and 2 before it
    refuses (lines ("H 64001" ∷ "E" ∷ [])) 3 1 ∷
    refuses (lines ("H 18446744073709551616" ∷ "E" ∷ [])) 3 1 ∷
    refuses (deck ("P 123456789012345678901234567890 95000 \"P1\"" ∷ [])) 3 2 ∷
    refuses (deck ("P 2001 95000 \"P1" ∷ [])) 2 2 ∷
    refuses (deck ("F 1 \"A\"" ∷ "P 2001 5 \"A\"" ∷ [])) 3 3 ∷
    refuses (deck ("U 100 120 40 30 20 0 50000 9000 10 10000 \"U1\"" ∷ [])) 3 2 ∷
    refuses (deck (u1_line ∷ "T 30 0 1 60 \"X\"" ∷ [])) 3 3 ∷
    refuses (deck (u1_line ∷ x_line ∷ "D 2000 50 \"U1\" \"X\"" ∷ [])) 3 4 ∷
    refuses (deck (u1_line ∷ x_line ∷ "D 0 50 \"U1\" \"X\"" ∷ [])) 3 4 ∷
    refuses (deck (u1_line ∷ x_line ∷ "D L 101 \"U1\" \"X\"" ∷ [])) 3 4 ∷
    -- 5, before 6; "X" and "X " are two, and so are "X" and "x"
    refuses (deck ("F 1 \"A\"" ∷ "U 100 99 40 30 20 20 50000 9000 10 10000 \"A\"" ∷ [])) 5 3 ∷
    refuses (deck (u1_line ∷ "T 30 1 1 6 \"X\"" ∷ "T 30 1 1 6 \"X\"" ∷ [])) 5 4 ∷
    prints (deck ("F 9 \"A\"" ∷ "F 9 \"A \"" ∷ "F 9 \" A\"" ∷ "F 9 \"a\"" ∷ "F 9 \" \"" ∷ [])) (lines ("hour 45 0 0 45" ∷ "internal \"A\" 9 0" ∷ "internal \"A \" 9 0" ∷ "internal \" A\" 9 0" ∷ "internal \"a\" 9 0" ∷ "internal \" \" 9 0" ∷ "end" ∷ [])) ∷
    -- a source and a delivery may share a label, and labels differ in their ninth character too
    prints (deck ("F 1 \"ABCDEFGH2\"" ∷ "T 1 1 1 0 \"ABCDEFGH1\"" ∷ "T 1 1 1 0 \"ABCDEFGH2\"" ∷ [])) (lines ("hour 1 0 0 1" ∷ "\"ABCDEFGH1\" 10 \"ABCDEFGH2\" 0 0 0" ∷ "\"ABCDEFGH2\" 10 \"ABCDEFGH2\" 0 0 0" ∷ "internal \"ABCDEFGH2\" 1 0" ∷ "end" ∷ [])) ∷
    -- 6: g = n - 1; g = n passes
    refuses (deck ("U 39 120 40 30 20 20 50000 9000 10 10000 \"U1\"" ∷ [])) 6 2 ∷
    prints (deck ("U 40 120 40 30 20 20 50000 9000 10 10000 \"U1\"" ∷ [])) (lines ("hour 40 0 0 40" ∷ "internal \"U1\" 40 8360000000" ∷ "end" ∷ [])) ∷
    -- 7: no unit, no delivery
    refuses (deck (u1_line ∷ x_line ∷ "D L 50 \"U2\" \"X\"" ∷ [])) 7 4 ∷
    refuses (deck ("F 100 \"A\"" ∷ x_line ∷ "D L 50 \"A\" \"X\"" ∷ [])) 7 4 ∷
    refuses (deck ("P 100 5 \"A\"" ∷ x_line ∷ "D 5 50 \"A\" \"X\"" ∷ [])) 7 4 ∷
    refuses (deck (u1_line ∷ x_line ∷ "D L 50 \"U1\" \"X \"" ∷ [])) 7 4 ∷
    -- 7 before 8
    refuses (deck (u1_line ∷ "D 120 1 \"U1\" \"X\"" ∷ [])) 7 3 ∷
    -- 8: another basis, a number not below h; `G` with g = h passes
    refuses (deck (u1_line ∷ x_line ∷ "D L 50 \"U1\" \"X\"" ∷ "D 40 50 \"U1\" \"X\"" ∷ [])) 8 5 ∷
    refuses (deck (u1_line ∷ x_line ∷ "D 120 50 \"U1\" \"X\"" ∷ [])) 8 4 ∷
    prints (deck ("U 9 9 4 3 2 2 5 9 1 10 \"U1\"" ∷ "T 30 1 1 4 \"X\"" ∷ "D G 50 \"U1\" \"X\"" ∷ [])) (lines ("hour 9 0 4 5" ∷ "\"X\" 300 \"U1\" 4 0 1124" ∷ "internal \"U1\" 5 1406" ∷ "end" ∷ [])) ∷
    -- 8 before 9
    refuses (deck (u1_line ∷ x_line ∷ "D L 1 \"U1\" \"X\"" ∷ "D 40 100 \"U1\" \"X\"" ∷ [])) 8 5 ∷
    -- 9: percents 60 and 41; 60 and 40 pass
    refuses (deck (u1_line ∷ x_line ∷ "D G 60 \"U1\" \"X\"" ∷ "D G 41 \"U1\" \"X\"" ∷ [])) 9 5 ∷
    refuses (deck (u1_line ∷ x_line ∷ "D G 60 \"U1\" \"X\"" ∷ "D G 40 \"U1\" \"X\"" ∷ [])) 13 300 ∷
    -- all of a unit's D lines count, whatever deliveries they name
    refuses (deck (u1_line ∷ x_line ∷ "T 1 1 1 1 \"Y\"" ∷ "D L 30 \"U1\" \"Y\"" ∷ "D L 30 \"U1\" \"X\"" ∷ "D L 41 \"U1\" \"Y\"" ∷ [])) 9 7 ∷
    -- 10, and equality passes; before 11
    refuses (lines ("H 41" ∷ u1_line ∷ x_line ∷ "E" ∷ [])) 10 0 ∷
    prints (lines ("H 40" ∷ u1_line ∷ x_line ∷ "E" ∷ [])) (lines ("hour 100 40 60 0" ∷ "\"X\" 300 \"U1\" 0 60 11640000000" ∷ "internal \"U1\" 40 8360000000" ∷ "end" ∷ [])) ∷
    refuses (lines ("H 41" ∷ u1_line ∷ "T 0 1 1 60 \"X\"" ∷ "E" ∷ [])) 10 0 ∷
    -- F is generation
    refuses (deck ("F 1 \"A\"" ∷ "T 1 1 1 1 \"X\"" ∷ [])) 12 10 ∷
    -- 11
    refuses (deck (u1_line ∷ "T 0 1 1 30 \"X\"" ∷ "T 0 2 2 30 \"Y\"" ∷ [])) 11 3 ∷
    -- labels with quotes and backslashes, and sixteen of them
    prints (deck ("F 9 \"\\\"\\\\\"" ∷ "P 0 0 \"\\\"\\\"\\\"\\\"\\\"\\\"\\\"\\\"\\\"\\\"\\\"\\\"\\\"\\\"\\\"\\\"\"" ∷ [])) (lines ("hour 9 0 0 9" ∷ "internal \"\\\"\\\\\" 9 0" ∷ "internal \"\\\"\\\"\\\"\\\"\\\"\\\"\\\"\\\"\\\"\\\"\\\"\\\"\\\"\\\"\\\"\\\"\" 0 0" ∷ "end" ∷ [])) ∷
    -- 4, before 5: a thirty-third source; thirty-two pass
    refuses (many_sources 33) 4 34 ∷
    leaves_bytes (many_sources 32) [] [] ∷
    -- a thirty-third delivery, its label used, and one out of range: 3 before it; a thirty-third D line
    overfull six_cells many_deliveries (text "T 1 1 1 0 \"X\"\n") 4 35 ∷
    overfull six_cells many_deliveries (text "T 100 1 1 0 \"Y\"\n") 3 35 ∷
    overfull (deck ("U 1 1 1 1 1 1 0 0 0 0 \"U\"" ∷ "T 1 1 1 0 \"X\"" ∷ "D L 1 \"U\" \"X\"" ∷ [])) many_directs (text "D L 1 \"U\" \"X\"\n") 4 36 ∷
    -- One group.
    -- a tie of top MWh takes the earlier source
    prints (deck ("P 4 0 \"S0\"" ∷ "P 10 0 \"S1\"" ∷ "T 3 2 1 1 \"T0\"" ∷ [])) (lines ("hour 14 0 1 13" ∷ "\"T0\" 30 \"S0\" 0 1 0" ∷ "\"T0\" 30 \"S1\" 0 0 0" ∷ "internal \"S0\" 3 0" ∷ "internal \"S1\" 10 0" ∷ "end" ∷ [])) ∷
    -- a tie of next MWh takes the later
    prints (deck ("U 11 12 6 4 3 1 0 0 0 1 \"S0\"" ∷ "U 9 11 5 4 2 1 9 0 0 7 \"S1\"" ∷ "T 1 2 4 6 \"T0\"" ∷ "D 7 36 \"S0\" \"T0\"" ∷ "D L 100 \"S1\" \"T0\"" ∷ [])) (lines ("hour 20 0 6 14" ∷ "\"T0\" 10 \"S0\" 2 0 0" ∷ "\"T0\" 10 \"S1\" 5 -1 126" ∷ "internal \"S0\" 9 0" ∷ "internal \"S1\" 5 0" ∷ "end" ∷ [])) ∷
    -- room equal to the remainder suffices: normal and last
    prints (deck ("U 11 11 8 5 5 2 1 3 2 3 \"S0\"" ∷ "P 4 0 \"S1\"" ∷ "T 2 1 1 7 \"T0\"" ∷ [])) (lines ("hour 15 0 7 8" ∷ "\"T0\" 20 \"S0\" 0 3 396" ∷ "\"T0\" 20 \"S1\" 0 4 0" ∷ "internal \"S0\" 8 534" ∷ "internal \"S1\" 0 0" ∷ "end" ∷ [])) ∷
    prints (deck ("U 7 9 7 5 5 5 4 2 2 2 \"S0\"" ∷ "T 3 2 3 7 \"T0\"" ∷ [])) (lines ("hour 7 0 7 0" ∷ "\"T0\" 30 \"S0\" 0 7 268" ∷ "internal \"S0\" 0 0" ∷ "end" ∷ [])) ∷
    -- oil lows come before emergency lows, and equality suffices there
    prints (deck ("U 21 22 13 11 7 4 0 1 0 1 \"S0\"" ∷ "P 19 0 \"S1\"" ∷ "T 1 2 2 29 \"T0\"" ∷ [])) (lines ("hour 40 0 29 11" ∷ "\"T0\" 10 \"S0\" 0 10 20" ∷ "\"T0\" 10 \"S1\" 0 19 0" ∷ "internal \"S0\" 11 22" ∷ "internal \"S1\" 0 0" ∷ "end" ∷ [])) ∷
    -- emergency lows come before the last step
    prints (deck ("U 10 10 8 6 2 1 0 1 0 1 \"A\"" ∷ "U 10 10 8 6 2 1 0 2 0 1 \"B\"" ∷ "T 1 1 1 9 \"X\"" ∷ [])) (lines ("hour 20 0 9 11" ∷ "\"X\" 10 \"A\" 0 1 2" ∷ "\"X\" 10 \"B\" 0 8 32" ∷ "internal \"A\" 9 18" ∷ "internal \"B\" 2 8" ∷ "end" ∷ [])) ∷
    -- each group begins again at normal lows
    prints (deck ("P 2 0 \"S0\"" ∷ "U 18 18 18 11 6 1 50 9 1 2000 \"S1\"" ∷ "T 1 2 1 1 \"T0\"" ∷ "T 2 1 2 3 \"T1\"" ∷ [])) (lines ("hour 20 0 4 16" ∷ "\"T0\" 10 \"S0\" 0 1 0" ∷ "\"T0\" 10 \"S1\" 0 0 0" ∷ "\"T1\" 20 \"S0\" 0 0 0" ∷ "\"T1\" 20 \"S1\" 0 3 306000" ∷ "internal \"S0\" 1 0" ∷ "internal \"S1\" 15 1190000" ∷ "end" ∷ [])) ∷
    -- the last step: all to their emergency floors first, then by falling average at the normal low, a tie to the earlier
    prints (deck ("U 6 8 6 4 2 2 3 1 1 2 \"S0\"" ∷ "P 7 0 \"S1\"" ∷ "T 1 2 2 12 \"T0\"" ∷ [])) (lines ("hour 13 0 12 1" ∷ "\"T0\" 10 \"S0\" 0 5 94" ∷ "\"T0\" 10 \"S1\" 0 7 0" ∷ "internal \"S0\" 1 14" ∷ "internal \"S1\" 0 0" ∷ "end" ∷ [])) ∷
    prints (deck ("U 8 12 8 8 2 2 32 1 0 2000 \"S0\"" ∷ "U 8 11 7 7 4 3 7 0 0 1 \"S1\"" ∷ "T 1 1 2 11 \"T0\"" ∷ [])) (lines ("hour 16 0 11 5" ∷ "\"T0\" 10 \"S0\" 0 7 92000" ∷ "\"T0\" 10 \"S1\" 0 4 0" ∷ "internal \"S0\" 1 68000" ∷ "internal \"S1\" 4 14" ∷ "end" ∷ [])) ∷
    prints (deck ("U 8 21 5 5 5 2 5 3 0 3 \"S0\"" ∷ "U 8 21 5 5 5 2 5 3 0 3 \"S1\"" ∷ "T 50 1 2 9 \"T0\"" ∷ [])) (lines ("hour 16 0 9 7" ∷ "\"T0\" 500 \"S0\" 0 6 108" ∷ "\"T0\" 500 \"S1\" 0 3 54" ∷ "internal \"S0\" 2 66" ∷ "internal \"S1\" 5 120" ∷ "end" ∷ [])) ∷
    prints (lines ("H 1" ∷ "U 8 12 7 5 4 3 4 6 2 2000 \"S0\"" ∷ "U 11 11 6 4 3 2 21 4 1 2000 \"S1\"" ∷ "T 1 1 1 14 \"T0\"" ∷ "E" ∷ [])) (lines ("hour 19 1 14 4" ∷ "\"T0\" 10 \"S0\" 0 6 381334" ∷ "\"T0\" 10 \"S1\" 0 8 352000" ∷ "internal \"S0\" 2 82666" ∷ "internal \"S1\" 3 150000" ∷ "end" ∷ [])) ∷
    -- averages are compared as fractions: 2/3 is more than 0
    prints (deck ("U 13 13 1 1 1 1 0 0 0 0 \"S0\"" ∷ "U 20 20 3 1 1 1 1 0 0 1 \"S1\"" ∷ "T 1 1 1 32 \"T0\"" ∷ [])) (lines ("hour 33 0 32 1" ∷ "\"T0\" 10 \"S0\" 0 12 0" ∷ "\"T0\" 10 \"S1\" 0 20 2" ∷ "internal \"S0\" 1 0" ∷ "internal \"S1\" 0 0" ∷ "end" ∷ [])) ∷
    -- b is the lesser of v and the basis, set once, and holds every floor
    prints (lines ("H 1" ∷ "U 15 24 9 8 7 6 0 1 1 3 \"S0\"" ∷ "T 3 2 1 6 \"T0\"" ∷ "D 18 100 \"S0\" \"T0\"" ∷ "E" ∷ [])) (lines ("hour 15 1 6 8" ∷ "\"T0\" 30 \"S0\" 15 -9 -342" ∷ "internal \"S0\" 9 1107" ∷ "end" ∷ [])) ∷
    prints (deck ("U 8 16 6 4 2 1 4 2 2 3 \"S0\"" ∷ "T 2 1 4 1 \"T0\"" ∷ "T 0 1 2 5 \"T1\"" ∷ "D G 13 \"S0\" \"T0\"" ∷ "D G 87 \"S0\" \"T1\"" ∷ [])) (lines ("hour 8 0 6 2" ∷ "\"T0\" 20 \"S0\" 1 0 63" ∷ "\"T1\" 19 \"S0\" 7 -2 201" ∷ "internal \"S0\" 2 240" ∷ "end" ∷ [])) ∷
    prints (deck ("U 15 16 8 7 6 6 2 0 2 2000 \"S0\"" ∷ "P 15 25 \"S1\"" ∷ "T 3 2 3 18 \"T0\"" ∷ "D G 23 \"S0\" \"T0\"" ∷ [])) (lines ("hour 30 0 18 12" ∷ "\"T0\" 30 \"S0\" 3 0 181600" ∷ "\"T0\" 30 \"S1\" 0 15 750000" ∷ "internal \"S0\" 12 726400" ∷ "internal \"S1\" 0 0" ∷ "end" ∷ [])) ∷
    -- emergency floors that b holds, after a credit; `G` is g, where v is above it
    prints (deck ("U 10 11 3 3 1 1 0 0 0 0 \"S0\"" ∷ "U 17 29 1 1 1 1 0 1 0 1 \"S1\"" ∷ "U 1 5 1 1 1 1 0 0 1 1 \"S2\"" ∷ "T 1 1 1 0 \"T0\"" ∷ "T 0 1 1 24 \"T1\"" ∷ "D G 100 \"S1\" \"T0\"" ∷ "D 2 1 \"S2\" \"T1\"" ∷ [])) (lines ("hour 28 0 24 4" ∷ "\"T0\" 10 \"S0\" 0 -1 0" ∷ "\"T0\" 10 \"S1\" 17 -12 10" ∷ "\"T0\" 10 \"S2\" 0 -4 -24" ∷ "\"T1\" 9 \"S0\" 0 9 0" ∷ "\"T1\" 9 \"S1\" 0 12 24" ∷ "\"T1\" 9 \"S2\" 0 3 21" ∷ "internal \"S0\" 2 0" ∷ "internal \"S1\" 0 0" ∷ "internal \"S2\" 2 4" ∷ "end" ∷ [])) ∷
    prints (deck ("U 18 18 1 1 1 1 0 0 0 0 \"S0\"" ∷ "U 11 12 1 1 1 1 0 0 0 0 \"S1\"" ∷ "T 1 1 1 0 \"T0\"" ∷ "T 0 1 1 24 \"T1\"" ∷ "D L 100 \"S0\" \"T0\"" ∷ "D G 55 \"S1\" \"T1\"" ∷ [])) (lines ("hour 29 0 24 5" ∷ "\"T0\" 10 \"S0\" 1 0 0" ∷ "\"T0\" 10 \"S1\" 0 -1 0" ∷ "\"T1\" 9 \"S0\" 0 17 0" ∷ "\"T1\" 9 \"S1\" 6 1 0" ∷ "internal \"S0\" 0 0" ∷ "internal \"S1\" 5 0" ∷ "end" ∷ [])) ∷
    -- D follows the percent total
    prints (lines ("H 1" ∷ "U 8 9 8 5 2 1 0 0 1 2 \"S0\"" ∷ "T 1 2 3 6 \"T0\"" ∷ "D 6 40 \"S0\" \"T0\"" ∷ "D 6 60 \"S0\" \"T0\"" ∷ "E" ∷ [])) (lines ("hour 8 1 6 1" ∷ "\"T0\" 10 \"S0\" 6 0 72" ∷ "internal \"S0\" 2 56" ∷ "end" ∷ [])) ∷
    -- W up to b is replaced
    prints (deck ("U 6 10 5 3 1 1 5 1 0 2 \"S0\"" ∷ "T 1 1 3 2 \"T0\"" ∷ "D G 39 \"S0\" \"T0\"" ∷ [])) (lines ("hour 6 0 2 4" ∷ "\"T0\" 10 \"S0\" 2 0 14" ∷ "internal \"S0\" 4 30" ∷ "end" ∷ [])) ∷
    -- a unit below e is not raised
    prints (lines ("H 1" ∷ "P 4 19 \"S0\"" ∷ "U 9 10 9 7 7 7 0 0 0 1 \"S1\"" ∷ "T 1 2 3 0 \"T0\"" ∷ "T 2 2 2 9 \"T1\"" ∷ "D 8 49 \"S1\" \"T0\"" ∷ "E" ∷ [])) (lines ("hour 13 1 9 3" ∷ "\"T0\" 10 \"S0\" 0 -1 -38000" ∷ "\"T0\" 10 \"S1\" 1 0 0" ∷ "\"T1\" 20 \"S0\" 0 4 152000" ∷ "\"T1\" 20 \"S1\" 0 5 0" ∷ "internal \"S0\" 1 38000" ∷ "internal \"S1\" 3 0" ∷ "end" ∷ [])) ∷
    -- after a last step a unit below e stays, and those at e rise, the cheapest next MWh first
    prints (deck ("U 11 11 2 2 2 1 1 3 0 12 \"S0\"" ∷ "U 19 19 17 16 16 1 0 4 0 10 \"S1\"" ∷ "U 19 19 4 3 3 1 0 0 1 8 \"S2\"" ∷ "T 1 1 1 29 \"T0\"" ∷ "T 0 1 1 0 \"T1\"" ∷ "D G 100 \"S2\" \"T1\"" ∷ [])) (lines ("hour 49 0 29 20" ∷ "\"T0\" 10 \"S0\" 0 10 720" ∷ "\"T0\" 10 \"S1\" 0 3 240" ∷ "\"T0\" 10 \"S2\" 0 16 2816" ∷ "\"T1\" 9 \"S0\" 0 0 0" ∷ "\"T1\" 9 \"S1\" 0 -1 -80" ∷ "\"T1\" 9 \"S2\" 3 -2 -56" ∷ "internal \"S0\" 1 96" ∷ "internal \"S1\" 17 1360" ∷ "internal \"S2\" 2 128" ∷ "end" ∷ [])) ∷
    -- shares are increases of a running part; a group of total 0; the direct MWh are the group's
    prints (deck ("U 10 11 8 4 4 1 2 0 0 7 \"S0\"" ∷ "T 1 1 3 6 \"T0\"" ∷ "T 1 1 2 4 \"T1\"" ∷ [])) (lines ("hour 10 0 10 0" ∷ "\"T0\" 10 \"S0\" 0 6 16" ∷ "\"T1\" 10 \"S0\" 0 4 12" ∷ "internal \"S0\" 0 0" ∷ "end" ∷ [])) ∷
    prints (lines ("H 2" ∷ "U 23 24 22 9 9 5 9 0 0 0 \"S0\"" ∷ "T 1 2 4 0 \"T0\"" ∷ "D 4 44 \"S0\" \"T0\"" ∷ "E" ∷ [])) (lines ("hour 23 2 0 21" ∷ "\"T0\" 10 \"S0\" 1 -1 0" ∷ "internal \"S0\" 23 0" ∷ "end" ∷ [])) ∷
    prints (deck ("U 11 12 8 6 5 5 0 1 0 1 \"S0\"" ∷ "T 2 1 2 6 \"T0\"" ∷ "T 2 2 4 1 \"T1\"" ∷ "D L 100 \"S0\" \"T1\"" ∷ [])) (lines ("hour 11 0 7 4" ∷ "\"T0\" 20 \"S0\" 6 0 12" ∷ "\"T1\" 20 \"S0\" 2 -1 2" ∷ "internal \"S0\" 4 8" ∷ "end" ∷ [])) ∷
    -- direct and incremental cost are split apart; two that are placed alike form a group, and of its total 0 the first has all
    prints (deck ("U 4 4 1 1 1 1 0 1 0 1 \"S0\"" ∷ "T 3 1 1 2 \"T0\"" ∷ "T 3 1 1 1 \"T1\"" ∷ "D 2 22 \"S0\" \"T0\"" ∷ "D 2 28 \"S0\" \"T0\"" ∷ [])) (lines ("hour 4 0 3 1" ∷ "\"T0\" 30 \"S0\" 0 1 3" ∷ "\"T1\" 30 \"S0\" 1 1 3" ∷ "internal \"S0\" 1 2" ∷ "end" ∷ [])) ∷
    prints (deck ("U 2 2 1 1 1 1 0 0 0 0 \"S0\"" ∷ "T 0 1 1 0 \"T0\"" ∷ "T 1 1 1 1 \"T1\"" ∷ "T 0 1 1 0 \"T2\"" ∷ "D 1 100 \"S0\" \"T2\"" ∷ [])) (lines ("hour 2 0 1 1" ∷ "\"T0\" 9 \"S0\" 1 -1 0" ∷ "\"T1\" 10 \"S0\" 0 1 0" ∷ "\"T2\" 9 \"S0\" 0 0 0" ∷ "internal \"S0\" 1 0" ∷ "end" ∷ [])) ∷
    -- groups descend; a placed delivery places no other; b) before c)
    prints (deck ("U 8 12 7 3 3 2 4 0 0 3 \"S0\"" ∷ "T 3 2 4 6 \"T0\"" ∷ "T 2 2 3 2 \"T1\"" ∷ [])) (lines ("hour 8 0 8 0" ∷ "\"T0\" 30 \"S0\" 0 6 0" ∷ "\"T1\" 20 \"S0\" 0 2 24" ∷ "internal \"S0\" 0 0" ∷ "end" ∷ [])) ∷
    prints (deck ("F 1 \"S0\"" ∷ "T 0 3 9 0 \"T0\"" ∷ "T 0 1 9 0 \"T1\"" ∷ "T 8 2 1 0 \"T2\"" ∷ [])) (lines ("hour 1 0 0 1" ∷ "\"T0\" 79 \"S0\" 0 0 0" ∷ "\"T1\" 79 \"S0\" 0 0 0" ∷ "\"T2\" 80 \"S0\" 0 0 0" ∷ "internal \"S0\" 1 0" ∷ "end" ∷ [])) ∷
    prints (deck ("P 6 23 \"S0\"" ∷ "T 25 1 2 2 \"T0\"" ∷ "T 0 1 3 0 \"T1\"" ∷ "T 2 1 4 2 \"T2\"" ∷ [])) (lines ("hour 6 0 4 2" ∷ "\"T0\" 250 \"S0\" 0 2 92000" ∷ "\"T1\" 19 \"S0\" 0 0 0" ∷ "\"T2\" 20 \"S0\" 0 2 92000" ∷ "internal \"S0\" 2 92000" ∷ "end" ∷ [])) ∷
    -- 12, in the first group and after another
    refuses (deck ("U 8 8 7 6 5 3 3 1 1 3 \"U\"" ∷ "T 1 1 2 6 \"X\"" ∷ "D L 1 \"U\" \"X\"" ∷ [])) 12 10 ∷
    refuses twelve 12 10 ∷
    -- 15: a number out of its range, entries past the counts that are not blank, zeros after a label's characters that are none
    ungiven printed (losing 64_001) ∷
    ungiven printed (last_source (Fixed 1) (replicate 16 0)) ∷
    ungiven printed (last_source (Fixed 0) (1 ∷ replicate 15 0)) ∷
    ungiven printed (last_direct 1) ∷
    -- 14 and lent memory: one cell or byte short, and one more than is written; an hour that is refused after its first group
    leaves_cells six_cells (pos 7 ∷ pos 7 ∷ pos 7 ∷ pos 7 ∷ pos 7 ∷ []) (pos 7 ∷ pos 7 ∷ pos 7 ∷ pos 7 ∷ pos 7 ∷ []) ∷
    leaves_cells six_cells (replicate 6 (pos 7)) (pos 0 ∷ pos 2 ∷ pos 0 ∷ pos 4000 ∷ pos 3 ∷ pos 6000 ∷ []) ∷
    leaves_cells six_cells (replicate 7 (pos 7)) (pos 0 ∷ pos 2 ∷ pos 0 ∷ pos 4000 ∷ pos 3 ∷ pos 6000 ∷ pos 7 ∷ []) ∷
    leaves_cells twelve (pos 8 ∷ replicate 9 (pos 7)) (pos 8 ∷ replicate 9 (pos 7)) ∷
    leaves_bytes (lines ("H 0" ∷ "E" ∷ [])) (replicate 5 7) (replicate 5 7) ∷
    leaves_bytes (lines ("H 0" ∷ "E" ∷ [])) (replicate 7 7) (text "H 0\nE\n" ++ (7 ∷ [])) ∷
    -- a label's own bytes, escapes unread; none where the entry is not there
    has_parts (deck ("F 1 \"\\\"\\\\ \"" ∷ [])) (text "\\\"\\\\ ") [] ∷
    has_parts (deck ("F 1 \"A\"" ∷ "T 1 1 1 2 \"X\"" ∷ [])) [] [] ∷
    -- the places of all labels, not those of a D line's mentions; one number more than they are, one short, and a refused deck
    leaves_places mentioned (replicate 4 7) (115_964_116_993 ∷ 150_323_855_362 ∷ 214_748_364_801 ∷ 7 ∷ []) ∷
    leaves_places mentioned (replicate 2 7) (replicate 2 7) ∷
    leaves_places (deck ("F 1 \"A\"" ∷ "T 1 1 1 2 \"X\"" ∷ [])) (replicate 2 7) (replicate 2 7) ∷
    []

pub starred : all_right table ≡ true
unfolding table all_right right past line_start label_start labelling mentioned curve u1 u1_line p1_line x_line delivery three printed credit_of many_sources many_deliveries many_directs losing last_source last_direct six_cells twelve accepts is_refused writes_back same_cells sameℤ sum_to list_to all_to any_to find_to same_list curve_cost matches rule_a rule_b rule_c rule_d rule_e placed numbered changed directed group_line group_lines room unit_room better next move plain headroom to_emergency unload credit remainder up_to keys in_turn turns share shared rest group groups reconstructed cells_of answer byte_at run number_at digits_in digits escape unescape closing label_end all_characters is_label spaced_number spaced_label basis_at spaced_basis fields_at seen written ranged labelled letter_of places_at line_at line_text started body taken feed headed finished lines_from reading texts deck_text same_by same_hour all_labelled given valid writing cells_for reconstruction source_part delivery_part hour_lines report_lines amounts_text report_text report_texts report
starred = refl
