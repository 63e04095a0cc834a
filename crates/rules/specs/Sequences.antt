-- Document 01, "Sequence numbers (document 001, 3.1)".
use Rattle.std.specs.Prelude.{Bool, true, not, ◌&&◌, List, [], ℕ, zero, suc, ◌+◌, ◌-◌, ◌*◌, min, max, eqb, get_or}
use Rattle.std.proofs.Math.Option.{Option, none, some}
use Rattle.rules.specs.Words.{when◌then◌else◌, ◌otherwise◌}
use Rattle.rules.specs.declared.Label.{Label}
use Rattle.rules.specs.declared.Delivery.{Delivery}
use Rattle.rules.specs.declared.InputSequence.{InputSequence}
use Rattle.rules.specs.declared.InternalSequence.{InternalSequence}

-- what is read past the end of a list of deliveries
abbrev pub no_label : Label
no_label = record { len = 0; bytes = [] }

abbrev pub no_delivery : Delivery
no_delivery = record { sequence = record { 0 = 0 }; kind = 0; block = 0; mwh = 0; label = no_label }

-- "The internal number is ten times the input number."
abbrev pub times_ten : InputSequence → InternalSequence
times_ten s = record { 0 = 10 * s.0 }

-- "Sequence 0 means "to be placed" and nothing else"
abbrev pub to_place : Delivery → Bool
to_place t = eqb t.sequence.0 0

-- "equal internal numbers"
abbrev pub same_number : InternalSequence → InternalSequence → Bool
same_number x y = eqb x.0 y.0

-- the lesser, or greater, of two internal numbers, where there are any
abbrev pub joined : (ℕ → ℕ → ℕ) → Option InternalSequence → Option InternalSequence → Option InternalSequence
joined f none y = y
joined f (some x) none = some x
joined f (some x) (some y) = some (record { 0 = f x.0 y.0 })

-- "matched against the deliveries with sequence 1..99 only": the number of one that fits
abbrev pub match : (Delivery → Bool) → Delivery → Option InternalSequence
match fits t = when not (to_place t) && fits t then some (times_ten t.sequence) else none

-- the "least match" (f is min) or "greatest match" (f is max) among the first n deliveries
unfoldable pub matches : (ℕ → ℕ → ℕ) → (Delivery → Bool) → List Delivery → ℕ → Option InternalSequence
matches f fits ts zero = none
matches f fits ts (suc n) = joined f (matches f fits ts n) (match fits (get_or ts n no_delivery))

-- "least match - 1"
abbrev pub before : Option InternalSequence → Option InternalSequence
before none = none
before (some x) = some (record { 0 = x.0 - 1 })

-- "greatest match + 1"
abbrev pub after : Option InternalSequence → Option InternalSequence
after none = none
after (some x) = some (record { 0 = x.0 + 1 })

abbrev pub same_type : Delivery → Delivery → Bool
same_type t o = eqb o.kind t.kind

-- "a) same type and block: least match - 1."
unfoldable pub rule_a : List Delivery → ℕ → Delivery → Option InternalSequence
rule_a ts n t = before (matches min (λ o. same_type t o && eqb o.block t.block) ts n)

-- "b) same type, block + 1: least match - 1."
unfoldable pub rule_b : List Delivery → ℕ → Delivery → Option InternalSequence
rule_b ts n t = before (matches min (λ o. same_type t o && eqb o.block (t.block + 1)) ts n)

-- "c) same type, block - 1, skipped where that is 0: greatest match + 1."
unfoldable pub rule_c : List Delivery → ℕ → Delivery → Option InternalSequence
rule_c ts n t = after (matches max (λ o. same_type t o && not (eqb (t.block - 1) 0) && eqb o.block (t.block - 1)) ts n)

-- "d) same type: least match - 1."
unfoldable pub rule_d : List Delivery → ℕ → Delivery → Option InternalSequence
rule_d ts n t = before (matches min (same_type t) ts n)

-- "e) any: least - 1."
unfoldable pub rule_e : List Delivery → ℕ → Option InternalSequence
rule_e ts n = before (matches min (λ o. true) ts n)

-- "the first rule that finds any decides"
unfoldable pub placed : List Delivery → ℕ → Delivery → Option InternalSequence
placed ts n t = rule_a ts n t otherwise rule_b ts n t otherwise rule_c ts n t otherwise rule_d ts n t otherwise rule_e ts n

-- a delivery's internal number; "sequence 0 and no delivery to place it by" has none (11)
unfoldable pub numbered : List Delivery → ℕ → Delivery → Option InternalSequence
numbered ts n t = when to_place t then placed ts n t else some (times_ten t.sequence)
