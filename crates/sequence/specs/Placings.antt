-- The keys of an hour's deliveries as a full table, with none past the last delivery.
use mathlib.Core.List.{List, [], ◌∷◌, ◌++◌, map, map-append, append_assoc}
use mathlib.Core.Option as maybe
use Rattle.std.specs.Prelude.{Bool, Option, unwrap_or, ◌≡◌, length, get_or, set, take, replicate}
use Rattle.std.proofs.Math.Option.{none, some}
use Rattle.std.proofs.Math.Path.{refl}
use Rattle.std.proofs.Common.{◌∙◌, length-take-le}
use Prim.Native.Nat.{ℕ, zero, suc, ◌+◌, ◌-◌, ◌≤◌, ◌<◌}
use Rattle.std.proofs.Math.Numerals.{add-one}
use native.Mathlib.Omega.{arith}
use Rattle.std.proofs.Math.ListN.{length-append, length-take, length-map, length-replicate}
use Rattle.std.proofs.Math.Seq.{take-suc}
use Rattle.std.proofs.lemmas.List.{set_at, get_or-take}
use Rattle.rules.specs.Hour.{no_number, no_key, or_none, keys, key_at}
use Rattle.rules.specs.Sequences.{no_delivery, matches, rule_a, rule_b, rule_c, rule_d, rule_e, placed, numbered}
use Rattle.sequence.specs.Matches.{option_of}
use Rattle.rules.specs.declared.Delivery.{Delivery}
use Rattle.rules.specs.declared.Hour.{Hour}
use Rattle.rules.specs.declared.InternalSequence.{InternalSequence}
use Rattle.rules.specs.declared.Key.{Key}

-- deliveries whose internal numbers are small
pub record Placeable (ts : List Delivery) (n : ℕ) : Type 0 where
  pub n_small : n ≤ 32
  pub sequence : (j : ℕ) → j < n → (get_or ts j no_delivery).sequence.0 ≤ 99
  pub block : (j : ℕ) → j < n → (get_or ts j no_delivery).block ≤ 99

abbrev key_for : List Delivery → ℕ → Delivery → Key
key_for ts n t = record { number = or_none (numbered ts n t) }

-- the table with the keys of the first i deliveries
unfoldable pub placings_to : List Delivery → ℕ → ℕ → List Key
placings_to ts n i = map (λ t. record { number = or_none (numbered ts n t) }) (take i ts) ++ replicate (32 - i) no_key

abbrev pub placings : List Delivery → ℕ → List Key
placings ts n = placings_to ts n n

module _ (ts : List Delivery) (n : ℕ) where
  pub length_placings : length ts ≡ 32 → length (placings ts n) ≡ 32
  unfolding placings_to
  length_placings e =
      length-append (map (key_for ts n) (take n ts)) (replicate (32 - n) no_key) ∙
      omega (arith, length-map (take n ts) (key_for ts n), length-take n ts, length-replicate (32 - n) no_key)

  pub placings_none : replicate 32 no_key ≡ placings_to ts n 0
  unfolding placings_to
  placings_none = refl

  pub placings_more : (i : ℕ) (ks : List Key) (x : InternalSequence) → length ts ≡ 32 → i < 32 → ks ≡ placings_to ts n i → x ≡ or_none (numbered ts n (get_or ts i no_delivery)) →
      set ks i (record { number = x }) ≡ placings_to ts n (i + 1)
  unfolding placings_to
  placings_more i ks x e l q p =
      let left : 32 - i ≡ suc (31 - i) = omega arith in
      let past : 32 - suc i ≡ 31 - i = omega arith in
      let f = key_for ts n in
      rw (q, left, p, add-one i, past, take-suc ts i no_delivery (omega arith), map-append f (take i ts) (get_or ts i no_delivery ∷ []), append_assoc (map f (take i ts)) (f (get_or ts i no_delivery) ∷ []) (replicate (31 - i) no_key))
      (set_at (map f (take i ts)) no_key (replicate (31 - i) no_key) (f (get_or ts i no_delivery)) i (omega (arith, length-map (take i ts) f, length-take i ts)))

  pub placings_end : (i : ℕ) (ks : List Key) → i ≤ n → n ≤ i → ks ≡ placings_to ts n i → ks ≡ placings ts n
  placings_end i ks a b q = let e : i ≡ n = omega arith in rw e at q

-- the first n alone have the same numbers
module _ (ts : List Delivery) (n : ℕ) where
  at_taken : (j : ℕ) → j < n → get_or (take n ts) j no_delivery ≡ get_or ts j no_delivery
  at_taken j l = get_or-take n ts j no_delivery l

  matches_taken : (f : ℕ → ℕ → ℕ) (p : Delivery → Bool) (i : ℕ) → i ≤ n → matches f p (take n ts) i ≡ matches f p ts i
  unfolding matches
  matches_taken f p zero l = refl
  matches_taken f p (suc i) l = rw (matches_taken f p i (omega arith), at_taken i (omega arith))

  numbered_taken : (t : Delivery) → numbered (take n ts) n t ≡ numbered ts n t
  unfolding numbered placed rule_a rule_b rule_c rule_d rule_e
  numbered_taken t = let same = λ (f : ℕ → ℕ → ℕ) (p : Delivery → Bool). matches_taken f p n (omega arith) in simp same

  -- a number found among them
  pub number_found : n ≤ length ts → (j : ℕ) → j < n → (r : Option InternalSequence) → r ≡ option_of (numbered (take n ts) (length (take n ts)) (get_or (take n ts) j no_delivery)) → unwrap_or r no_number ≡ or_none (numbered ts n (get_or ts j no_delivery))
  number_found l j m r e = rw (e, length-take-le n ts l, at_taken j m, numbered_taken (get_or ts j no_delivery)) (go (numbered ts n (get_or ts j no_delivery)))
    where
      go : (x : maybe.Option InternalSequence) → unwrap_or (option_of x) no_number ≡ or_none x
      go none = refl
      go (some x) = refl

get_d_padded : {A : Type 0} (xs : List A) (d : A) (m j : ℕ) → get_or (xs ++ replicate m d) j d ≡ get_or xs j d
get_d_padded [] d zero j = refl
get_d_padded [] d (suc m) zero = refl
get_d_padded [] d (suc m) (suc j) = get_d_padded [] d m j
get_d_padded (x ∷ xs) d m zero = refl
get_d_padded (x ∷ xs) d m (suc j) = get_d_padded xs d m j

-- the hour's own keys
pub placings_same : (h : Hour) (j : ℕ) → key_at (placings h.deliveries h.ndeliveries) j ≡ key_at (keys h) j
unfolding placings_to keys
placings_same h j =
    get_d_padded (map (key_for h.deliveries h.ndeliveries) (take h.ndeliveries h.deliveries)) no_key (32 - h.ndeliveries) j
