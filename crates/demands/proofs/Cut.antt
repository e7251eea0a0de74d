-- Lists cut at an index, and buffers cut at a section: what lies before the cut of the one, and from the cut on of the
-- other. Assumes nothing.
use mathlib.Core.Path.{◌≡◌, refl, sym, ap, ◌∙◌}
use mathlib.Core.List.{List, ◌++◌}
use Prim.Native.Nat.{ℕ, ◌+◌, ◌-◌, ◌*◌, ◌≤◌, ◌<◌}
use native.Mathlib.Omega.{arith}
use lib.ListN.{length, take, drop, take-append-drop, drop_of_length-le}
use lib.Seq.{take_at, drop_at, take-add, take-take, take-append-le, drop-append-le, length-take-le, length_front}
use lib.Ieee.{Float}
use Rattle.shelf.specs.Shelf.{section_size, entry_words, entries_for, words_for}
use Rattle.judging.specs.Judging.{most_samples}
use Rattle.sections.specs.Outcome.{Buffers, lends, samples_in, Lent, before, onward}
use Rattle.sections.proofs.Room.{same-buffers, later_drop}
use Rattle.sections.proofs.Between.{in_parts}

module _ {A : Type 0} where
  -- the first k items of xs, then ys
  pub front : (k : ℕ) (xs ys : List A) → k ≤ length xs → take k (take k xs ++ ys) ≡ take k xs
  front k xs ys h = take_at (take k xs) ys k (length-take-le k xs h)

  pub back : (k : ℕ) (xs ys : List A) → k ≤ length xs → drop k (take k xs ++ ys) ≡ ys
  back k xs ys h = drop_at (take k xs) ys k (length-take-le k xs h)

  -- ---- `over j xs ys`: the first j items of xs, then those of ys from index j on
  abbrev pub over : ℕ → List A → List A → List A
  over j xs ys = take j xs ++ drop j ys

  pub over-length : (j : ℕ) (xs ys : List A) → j ≤ length xs → length xs ≡ length ys → length (over j xs ys) ≡ length ys
  over-length j xs ys h e = length_front ys (take j xs) j (length-take-le j xs h ∙ sym (length-take-le j ys (omega arith)))

  -- before index k <= j it is xs
  over-front : (k j : ℕ) (xs ys : List A) → k ≤ j → j ≤ length xs → take k (over j xs ys) ≡ take k xs
  over-front k j xs ys h l = take-append-le k (take j xs) (drop j ys) (omega (arith, length-take-le j xs l)) ∙ take-take k j xs h

  drop-take : (k j : ℕ) (xs : List A) → k ≤ j → k ≤ length xs → drop k (take j xs) ≡ take (j - k) (drop k xs)
  drop-take k j xs h l =
      let e : j ≡ k + (j - k) = omega arith in
      ap (λ (i : ℕ). drop k (take i xs)) e ∙ ap (drop k) (take-add k (j - k) xs) ∙ drop_at (take k xs) (take (j - k) (drop k xs)) k (length-take-le k xs l)

  -- from k on it is ys, where xs and ys are the same from k to j: there both are zs
  over_back : (k j : ℕ) (xs ys zs : List A) → k ≤ j → j ≤ length xs → j ≤ length ys → j ≤ length zs → drop k xs ≡ drop k zs → take j zs ≡ take j ys → drop k (over j xs ys) ≡ drop k ys
  over_back k j xs ys zs h lx ly lz e f =
      drop-append-le k (take j xs) (drop j ys) (omega (arith, length-take-le j xs lx))
      ∙ ap (λ (l : List A). l ++ drop j ys) (drop-take k j xs h (omega arith) ∙ ap (take (j - k)) e ∙ sym (drop-take k j zs h (omega arith)) ∙ ap (drop k) f)
      ∙ sym (drop-append-le k (take j ys) (drop j ys) (omega (arith, length-take-le j ys ly)))
      ∙ ap (drop k) (take-append-drop j ys)

  -- lists that are the same from index k up to index j and from j on are the same from k on
  pub rejoin : (k j : ℕ) (xs ys : List A) → k ≤ j → drop k (take j xs) ≡ drop k (take j ys) → drop j xs ≡ drop j ys → drop k xs ≡ drop k ys
  rejoin k j xs ys h e f = parts xs ∙ rw (e, f) (sym (parts ys))
    where
      parts : (zs : List A) → drop k zs ≡ drop k (take j zs) ++ drop j zs
      parts zs = let d : k + (j - k) ≡ j = omega arith in rw d at (in_parts k (j - k) zs)

-- buffers of the same parts
pub same-lends : {xs ys : List Float} {us vs : List ℕ} {ms ns : List Float} {is js : List ℕ} → xs ≡ ys → us ≡ vs → ms ≡ ns → is ≡ js → lends xs us ms is ≡ lends ys vs ns js
same-lends a b c d = rw (a, b, c, d) refl

-- ---- buffers of n samples
pub record Sized (n : ℕ) (b : Buffers) : Type 0 where
  pub long : samples_in b ≡ n
  pub fits : length b.stored ≡ words_for n
  pub magnitudes-fit : length b.summary.magnitudes ≡ entries_for n
  pub numbers_fit : length b.summary.numbers ≡ entries_for n

pub lent-sized : (b : Buffers) → Lent b → Sized (samples_in b) b
lent-sized b z = record { long = refl; fits = z.fits; magnitudes-fit = z.magnitudes-fit; numbers_fit = z.numbers_fit }

pub sized-lent : (n : ℕ) (b : Buffers) → n ≤ most_samples → Sized n b → Lent b
sized-lent n b h z =
    let e : n ≡ samples_in b = sym z.long in
    record { short = omega (arith, h, e); fits = z.fits ∙ ap words_for e; magnitudes-fit = z.magnitudes-fit ∙ ap entries_for e; numbers_fit = z.numbers_fit ∙ ap entries_for e }

-- past the last section there is nothing
pub cut-none : (n : ℕ) (b c : Buffers) → Sized n b → Sized n c → onward (entries_for n) b ≡ onward (entries_for n) c
cut-none n b c x y =
    rw (
      none (entries_for n * section_size) b.heard c.heard (omega (arith, x.long)) (omega (arith, y.long)),
      none (entries_for n * entry_words) b.stored c.stored (omega (arith, x.fits)) (omega (arith, y.fits)),
      none (entries_for n) b.summary.magnitudes c.summary.magnitudes (omega (arith, x.magnitudes-fit)) (omega (arith, y.magnitudes-fit)),
      none (entries_for n) b.summary.numbers c.summary.numbers (omega (arith, x.numbers_fit)) (omega (arith, y.numbers_fit)),
    )
    refl
  where
    none : {A : Type 0} (k : ℕ) (xs ys : List A) → length xs ≤ k → length ys ≤ k → drop k xs ≡ drop k ys
    none k xs ys h l = drop_of_length-le xs {i = k} h ∙ sym (drop_of_length-le ys {i = k} l)

-- what lies before section m of b, then what lies from section m on of c
abbrev pub over_at : ℕ → Buffers → Buffers → Buffers
over_at m b c = lends (over (m * section_size) b.heard c.heard) (over (m * entry_words) b.stored c.stored) (over m b.summary.magnitudes c.summary.magnitudes) (over m b.summary.numbers c.summary.numbers)

module _ (n m : ℕ) (there : m < entries_for n) (b c : Buffers) (x : Sized n b) where
  in_heard : m * section_size ≤ length b.heard
  in_heard = omega (arith, there, x.long)

  in_stored : m * entry_words ≤ length b.stored
  in_stored = omega (arith, there, x.fits)

  in_magnitudes : m ≤ length b.summary.magnitudes
  in_magnitudes = omega (arith, there, x.magnitudes-fit)

  in_numbers : m ≤ length b.summary.numbers
  in_numbers = omega (arith, there, x.numbers_fit)

  -- before section k <= m it is b
  pub cut-front : (k : ℕ) → k ≤ m → before k (over_at m b c) ≡ before k b
  cut-front k h =
      rw (
        over-front (k * section_size) (m * section_size) b.heard c.heard (omega arith) in_heard,
        over-front (k * entry_words) (m * entry_words) b.stored c.stored (omega arith) in_stored,
        over-front k m b.summary.magnitudes c.summary.magnitudes h in_magnitudes,
        over-front k m b.summary.numbers c.summary.numbers h in_numbers,
      )
      refl

  -- from section m on it is c
  pub cut_rest : onward m (over_at m b c) ≡ onward m c
  cut_rest =
      rw (
        back (m * section_size) b.heard (drop (m * section_size) c.heard) in_heard,
        back (m * entry_words) b.stored (drop (m * entry_words) c.stored) in_stored,
        back m b.summary.magnitudes (drop m c.summary.magnitudes) in_magnitudes,
        back m b.summary.numbers (drop m c.summary.numbers) in_numbers,
      )
      refl

  module _ (y : Sized n c) where
    pub cut-sized : Sized n (over_at m b c)
    cut-sized =
        record {
          long = over-length (m * section_size) b.heard c.heard in_heard (x.long ∙ sym y.long) ∙ y.long;
          fits = over-length (m * entry_words) b.stored c.stored in_stored (x.fits ∙ sym y.fits) ∙ y.fits;
          magnitudes-fit = over-length m b.summary.magnitudes c.summary.magnitudes in_magnitudes (x.magnitudes-fit ∙ sym y.magnitudes-fit) ∙ y.magnitudes-fit;
          numbers_fit = over-length m b.summary.numbers c.summary.numbers in_numbers (x.numbers_fit ∙ sym y.numbers_fit) ∙ y.numbers_fit;
        }

    -- from section k <= m on it is c, where b and c are the same from section k to section m: there both are z
    pub cut_back : (z : Buffers) → Sized n z → (k : ℕ) → k ≤ m → onward k b ≡ onward k z → before m z ≡ before m c → onward k (over_at m b c) ≡ onward k c
    cut_back z w k h e f =
        rw (
          over_back (k * section_size) (m * section_size) b.heard c.heard z.heard (omega arith) in_heard (omega (arith, there, y.long)) (omega (arith, there, w.long)) (ap (λ (d : Buffers). d.heard) e) (ap (λ (d : Buffers). d.heard) f),
          over_back (k * entry_words) (m * entry_words) b.stored c.stored z.stored (omega arith) in_stored (omega (arith, there, y.fits)) (omega (arith, there, w.fits)) (ap (λ (d : Buffers). d.stored) e) (ap (λ (d : Buffers). d.stored) f),
          over_back k m b.summary.magnitudes c.summary.magnitudes z.summary.magnitudes h in_magnitudes (omega (arith, there, y.magnitudes-fit)) (omega (arith, there, w.magnitudes-fit)) (ap (λ (d : Buffers). d.summary.magnitudes) e) (ap (λ (d : Buffers). d.summary.magnitudes) f),
          over_back k m b.summary.numbers c.summary.numbers z.summary.numbers h in_numbers (omega (arith, there, y.numbers_fit)) (omega (arith, there, w.numbers_fit)) (ap (λ (d : Buffers). d.summary.numbers) e) (ap (λ (d : Buffers). d.summary.numbers) f),
        )
        refl

-- buffers that are the same from section k on are the same from any later section on
pub cut_later : (k m : ℕ) (b z : Buffers) → k ≤ m → onward k b ≡ onward k z → onward m b ≡ onward m z
cut_later k m b z h e =
    same-lends
    (later_drop (k * section_size) (m * section_size) b.heard z.heard (omega arith) (ap (λ (d : Buffers). d.heard) e))
    (later_drop (k * entry_words) (m * entry_words) b.stored z.stored (omega arith) (ap (λ (d : Buffers). d.stored) e))
    (later_drop k m b.summary.magnitudes z.summary.magnitudes h (ap (λ (d : Buffers). d.summary.magnitudes) e))
    (later_drop k m b.summary.numbers z.summary.numbers h (ap (λ (d : Buffers). d.summary.numbers) e))

-- what lies from section m up to section k and what lies from section k on are all from section m on
pub cut-onward : (m k : ℕ) (b c : Buffers) → m ≤ k → onward m (before k b) ≡ onward m (before k c) → onward k b ≡ onward k c → onward m b ≡ onward m c
cut-onward m k b c h e f =
    same-lends
    (rejoin (m * section_size) (k * section_size) b.heard c.heard (omega arith) (ap (λ (d : Buffers). d.heard) e) (ap (λ (d : Buffers). d.heard) f))
    (rejoin (m * entry_words) (k * entry_words) b.stored c.stored (omega arith) (ap (λ (d : Buffers). d.stored) e) (ap (λ (d : Buffers). d.stored) f))
    (rejoin m k b.summary.magnitudes c.summary.magnitudes h (ap (λ (d : Buffers). d.summary.magnitudes) e) (ap (λ (d : Buffers). d.summary.magnitudes) f))
    (rejoin m k b.summary.numbers c.summary.numbers h (ap (λ (d : Buffers). d.summary.numbers) e) (ap (λ (d : Buffers). d.summary.numbers) f))

-- what lies before section m and what lies from it on are all that there is
pub cut-whole : (m : ℕ) (b c : Buffers) → before m b ≡ before m c → onward m b ≡ onward m c → b ≡ c
cut-whole m b c e f =
    same-buffers b c
    (whole (m * section_size) b.heard c.heard (ap (λ (d : Buffers). d.heard) e) (ap (λ (d : Buffers). d.heard) f))
    (whole (m * entry_words) b.stored c.stored (ap (λ (d : Buffers). d.stored) e) (ap (λ (d : Buffers). d.stored) f))
    (rw (
      whole m b.summary.magnitudes c.summary.magnitudes (ap (λ (d : Buffers). d.summary.magnitudes) e) (ap (λ (d : Buffers). d.summary.magnitudes) f),
      whole m b.summary.numbers c.summary.numbers (ap (λ (d : Buffers). d.summary.numbers) e) (ap (λ (d : Buffers). d.summary.numbers) f),
    )
    refl)
  where
    whole : {A : Type 0} (k : ℕ) (xs ys : List A) → take k xs ≡ take k ys → drop k xs ≡ drop k ys → xs ≡ ys
    whole k xs ys a b = sym (take-append-drop k xs) ∙ rw (a, b) (take-append-drop k ys)
