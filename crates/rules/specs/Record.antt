-- Document 01, "The deck": the hour record, and the line that each of its entries is.
use Rattle.std.specs.Prelude.{Bool, List, [], ◌∷◌, ◌++◌, ℕ, ◌+◌, ◌-◌, length, get_or, set, take, replicate}
use Rattle.rules.specs.Words.{list_to, same_list}
use Rattle.rules.specs.Sequences.{no_label, no_delivery}
use Rattle.rules.specs.Group.{no_unit, no_direct}
use Rattle.rules.specs.Fields.{Chars}
use Rattle.rules.specs.Lines.{H, U, P, F, T, D, E, Fields, fields_of, Line, line}
use Rattle.rules.specs.declared.Label.{Label}
use Rattle.rules.specs.declared.Plant.{Plant}
use Rattle.rules.specs.declared.Plant.TheVariants.{Unit, Purchase, Fixed}
use Rattle.rules.specs.declared.Source.{Source}
use Rattle.rules.specs.declared.Delivery.{Delivery}
use Rattle.rules.specs.declared.Direct.{Direct}
use Rattle.rules.specs.declared.Hour.{Hour}

-- Labels.

-- a label's characters
abbrev pub chars : Label → Chars
chars l = take l.len l.bytes

-- the label of some characters, zeros after them
abbrev pub label_of : Chars → Label
label_of cs = record { len = length cs; bytes = cs ++ replicate (16 - length cs) 0 }

-- "Labels are equal when their characters are."
abbrev pub same_label : Label → Label → Bool
same_label a b = same_list (chars a) (chars b)

-- Entries.

-- what is read past the end of a list of sources
abbrev pub no_source : Source
no_source = record { plant = Unit no_unit; label = no_label }

abbrev pub source_at : Hour → ℕ → Source
source_at h i = get_or h.sources i no_source

abbrev pub delivery_at : Hour → ℕ → Delivery
delivery_at h i = get_or h.deliveries i no_delivery

abbrev pub direct_at : Hour → ℕ → Direct
direct_at h i = get_or h.directs i no_direct

-- the entries that are not there yet
abbrev pub blank_source : Source
blank_source = record { plant = Fixed 0; label = label_of [] }

abbrev pub blank_delivery : Delivery
blank_delivery = record { sequence = record { 0 = 0 }; kind = 0; block = 0; mwh = 0; label = label_of [] }

abbrev pub blank_direct : Direct
blank_direct = no_direct

-- the hour that an H line starts
unfoldable pub started : ℕ → Hour
started losses =
    record {
      losses = losses;
      nsources = 0;
      ndeliveries = 0;
      ndirects = 0;
      sources = replicate 32 blank_source;
      deliveries = replicate 32 blank_delivery;
      directs = replicate 32 blank_direct;
    }

-- the hour with one entry more
abbrev pub with_source : Hour → Source → Hour
with_source h x =
    record {
      losses = h.losses;
      nsources = h.nsources + 1;
      ndeliveries = h.ndeliveries;
      ndirects = h.ndirects;
      sources = set h.sources h.nsources x;
      deliveries = h.deliveries;
      directs = h.directs;
    }

abbrev pub with_delivery : Hour → Delivery → Hour
with_delivery h x =
    record {
      losses = h.losses;
      nsources = h.nsources;
      ndeliveries = h.ndeliveries + 1;
      ndirects = h.ndirects;
      sources = h.sources;
      deliveries = set h.deliveries h.ndeliveries x;
      directs = h.directs;
    }

abbrev pub with_direct : Hour → Direct → Hour
with_direct h x =
    record {
      losses = h.losses;
      nsources = h.nsources;
      ndeliveries = h.ndeliveries;
      ndirects = h.ndirects + 1;
      sources = h.sources;
      deliveries = h.deliveries;
      directs = set h.directs h.ndirects x;
    }

-- A line's entry: "g h n o e k .., A .., B .., C .., R .., label"; "g .., rate .., label"; "g .., label"; "sequence .., type .., block .., MWh .., label".

abbrev pub unit_of : Fields Chars (fields_of U) → Source
unit_of = λ (g, (h, (n, (o, (e, (k, (a, (b, (c, (r, (label, _))))))))))).
    record { plant = Unit (record { g = g; h = h; n = n; o = o; e = e; curve = record { k = k; a = a; b = b; c = c; r = r } }); label = label_of label }

abbrev pub purchase_of : Fields Chars (fields_of P) → Source
purchase_of = λ (g, (rate, (label, _))). record { plant = Purchase g rate; label = label_of label }

abbrev pub fixed_of : Fields Chars (fields_of F) → Source
fixed_of = λ (g, (label, _)). record { plant = Fixed g; label = label_of label }

abbrev pub delivery_of : Fields Chars (fields_of T) → Delivery
delivery_of = λ (sequence, (type, (block, (mwh, (label, _))))).
    record { sequence = record { 0 = sequence }; kind = type; block = block; mwh = mwh; label = label_of label }

-- An entry's line.

abbrev pub plant_line : Plant → Chars → Line
plant_line (Unit u) label =
    line U (u.g, (u.h, (u.n, (u.o, (u.e, (u.curve.k, (u.curve.a, (u.curve.b, (u.curve.c, (u.curve.r, (label, tt)))))))))))
plant_line (Purchase g rate) label = line P (g, (rate, (label, tt)))
plant_line (Fixed g) label = line F (g, (label, tt))

abbrev pub source_line : Source → Line
source_line x = plant_line x.plant (chars x.label)

abbrev pub delivery_line : Delivery → Line
delivery_line x = line T (x.sequence.0, (x.kind, (x.block, (x.mwh, (chars x.label, tt)))))

-- "basis ..; percent ..; unit label; delivery label"
abbrev pub direct_line : Hour → Direct → Line
direct_line h x = line D (x.basis, (x.percent, (chars (source_at h x.source).label, (chars (delivery_at h x.delivery).label, tt))))

abbrev pub head_line : Hour → Line
head_line h = line H (h.losses, tt)

abbrev pub end_line : Line
end_line = line E tt

-- "then sources in any mix, then T lines, then D lines"
unfoldable pub body : Hour → List Line
body h =
    list_to (λ i. source_line (source_at h i) ∷ []) h.nsources ++
    (list_to (λ i. delivery_line (delivery_at h i) ∷ []) h.ndeliveries ++
    list_to (λ i. direct_line h (direct_at h i) ∷ []) h.ndirects)
