-- The summary of samples: how much it says, one section more, what it depends on, and that the summary of an output of
-- which some sections changed is what came for the others, and what these say. Assumes nothing.
use mathlib.Core.Path.{◌≡◌, refl, sym, ap, ◌∙◌}
use mathlib.Core.List.{List, [], ◌∷◌, ◌++◌, append_assoc, append-nil}
use mathlib.Core.Logic.{⊎_elim}
use Prim.Native.Nat.{ℕ, suc, ◌+◌, ◌-◌, ◌*◌, ◌<◌, ◌≤◌}
use native.Mathlib.Nat.{zero-add}
use native.Mathlib.Omega.{arith}
use lib.ListN.{length, take, drop, set}
use lib.Seq.{take_all, take_at, drop_at, drop-drop, take-take}
use lib.Ieee.{Float}
use Rattle.score.proofs.Cuts.{lt_or_ge}
use Rattle.runs.specs.Runs.{listed}
use Rattle.runs.proofs.Listed.{listed-length, listed_on, listed_same}
use Rattle.peaks.specs.declared.Peak.{Peak}
use Rattle.peaks.specs.Peaks.{peak_of}
use Rattle.shelf.specs.Shelf.{section_size}
use Rattle.sections.specs.Summary.{section_of, largest, first_number, said_from, summary_from}
use Rattle.sections.specs.Sections.{between, summed_between}
use Rattle.sections.proofs.Between.{between-set, drop-take}

-- ---- a section
-- the section that stands between A and C is ys, where ys is whole or nothing follows
pub section_in : (j : ℕ) (A ys C : List Float) → length A ≡ j * section_size → length ys ≤ section_size → (length ys < section_size → C ≡ []) → section_of ((A ++ ys) ++ C) j ≡ ys
section_in j A ys C a few short = rw (append_assoc A ys C, drop_at A (ys ++ C) (j * section_size) a) (go (length ys) refl)
  where
    go : (n : ℕ) → length ys ≡ n → take section_size (ys ++ C) ≡ ys
    go n e = ⊎_elim (λ l. rw (short l, append-nil ys) (take_all section_size ys few)) (λ g. take_at ys C section_size (omega (arith, few))) (lt_or_ge (length ys) section_size)

-- section m + j is section j of what is left from section m on
section_on : (xs : List Float) (m j : ℕ) → section_of xs (m + j) ≡ section_of (drop (m * section_size) xs) j
section_on xs m j =
    let e : (m + j) * section_size ≡ m * section_size + j * section_size = omega arith in
    rw e (ap (take section_size) (sym (drop-drop (j * section_size) (m * section_size) xs)))

-- the sections before section e lie before its first sample
section_in_front : (xs : List Float) (e j : ℕ) → j < e → section_of xs j ≡ section_of (take (e * section_size) xs) j
section_in_front xs e j l =
    let d : j * section_size + (e - j) * section_size ≡ e * section_size = omega arith in
    let c : section_size ≤ (e - j) * section_size = omega arith in
    sym (ap (take section_size) (ap (λ (i : ℕ). drop (j * section_size) (take i xs)) (sym d) ∙ drop-take (j * section_size) ((e - j) * section_size) xs) ∙ take-take section_size ((e - j) * section_size) (drop (j * section_size) xs) c)

module _ {A : Type 0} (f : ℕ → Peak → A) where
  pub said_length : (xs : List Float) (m k : ℕ) → length (said_from f xs m k) ≡ k
  unfolding said_from
  said_length xs m k = listed-length _ k

  -- one section more
  pub said_more : (xs : List Float) (m k : ℕ) → said_from f xs m (suc k) ≡ said_from f xs m k ++ (f (m + k) (peak_of (section_of xs (m + k))) ∷ [])
  unfolding said_from listed
  said_more xs m k = refl

  -- what is said from section m on depends on the samples from there on
  pub said_alike : (xs ys : List Float) (m k : ℕ) → drop (m * section_size) xs ≡ drop (m * section_size) ys → said_from f xs m k ≡ said_from f ys m k
  unfolding said_from
  said_alike xs ys m k e = listed_same _ _ k (λ j l. ap (λ (zs : List Float). f (m + j) (peak_of zs)) (section_on xs m j ∙ ap (λ (zs : List Float). section_of zs j) e ∙ sym (section_on ys m j)))

  -- cut anywhere
  pub said_on : (xs : List Float) (m j k : ℕ) → said_from f xs m (j + k) ≡ said_from f xs m j ++ said_from f xs (m + j) k
  unfolding said_from
  said_on xs m j k = listed_on _ j k ∙ ap (◌++◌ (said_from f xs m j)) (listed_same _ _ k (λ i l. ap (λ (n : ℕ). f n (peak_of (section_of xs n))) (let e : m + (j + i) ≡ m + j + i = omega arith in e)))

  -- of n sections from the first on the first m, and the others
  pub said_cut : (xs : List Float) (m n : ℕ) → m ≤ n → said_from f xs 0 n ≡ said_from f xs 0 m ++ said_from f xs m (n - m)
  said_cut xs m n l =
      let e : m + (n - m) ≡ n = omega arith in
      ap (said_from f xs 0) (sym e) ∙ said_on xs 0 m (n - m) ∙ ap (λ (i : ℕ). said_from f xs 0 m ++ said_from f xs i (n - m)) (zero-add m)

  pub said_first : (xs : List Float) (m n : ℕ) → m ≤ n → take m (said_from f xs 0 n) ≡ said_from f xs 0 m
  said_first xs m n l = ap (take m) (said_cut xs m n l) ∙ take_at (said_from f xs 0 m) (said_from f xs m (n - m)) m (said_length xs 0 m)

  pub said_rest : (xs : List Float) (m n : ℕ) → m ≤ n → drop m (said_from f xs 0 n) ≡ said_from f xs m (n - m)
  said_rest xs m n l = ap (drop m) (said_cut xs m n l) ∙ drop_at (said_from f xs 0 m) (said_from f xs m (n - m)) m (said_length xs 0 m)

  said_front : (xs : List Float) (m k e : ℕ) → m + k ≡ e → said_from f xs m k ≡ said_from f (take (e * section_size) xs) m k
  unfolding said_from
  said_front xs m k e is = listed_same _ _ k (λ j l. ap (λ (zs : List Float). f (m + j) (peak_of zs)) (section_in_front xs e (m + j) (omega arith)))

  -- samples that are the same before section e say the same of the sections before it
  pub said_shared : (xs ys : List Float) (m k e : ℕ) → m + k ≡ e → take (e * section_size) xs ≡ take (e * section_size) ys → said_from f xs m k ≡ said_from f ys m k
  said_shared xs ys m k e is same = said_front xs m k e is ∙ ap (λ (zs : List Float). said_from f zs m k) same ∙ sym (said_front ys m k e is)

  -- samples that are the same from section m up to section e say the same of these sections
  pub said_part : (xs ys : List Float) (m k e : ℕ) → m + k ≡ e → drop (m * section_size) (take (e * section_size) xs) ≡ drop (m * section_size) (take (e * section_size) ys) → said_from f xs m k ≡ said_from f ys m k
  said_part xs ys m k e is same = said_front xs m k e is ∙ said_alike (take (e * section_size) xs) (take (e * section_size) ys) m k same ∙ sym (said_front ys m k e is)

  -- samples that changed from section m up to section e: what was said of the others stays right
  pub said_right : (xs ys : List Float) (m e n : ℕ) → m ≤ e → e ≤ n → take (m * section_size) xs ≡ take (m * section_size) ys → drop (e * section_size) xs ≡ drop (e * section_size) ys
      → between m e (said_from f xs 0 n) (said_from f ys m (e - m)) ≡ said_from f ys 0 n
  said_right xs ys m e n l u front rest =
      let d : n - m ≡ e - m + (n - e) = omega arith in
      let c : m + (e - m) ≡ e = omega arith in
      let first : take m (said_from f xs 0 n) ≡ said_from f ys 0 m = said_first xs m n (omega arith) ∙ said_shared xs ys 0 m m (omega arith) front in
      let last : drop e (said_from f xs 0 n) ≡ said_from f ys e (n - e) = said_rest xs e n u ∙ said_alike xs ys e (n - e) rest in
      rw (first, last) (sym (said_cut ys m n (omega arith) ∙ ap (λ (i : ℕ). said_from f ys 0 m ++ said_from f ys m i) d
      ∙ ap (λ (zs : List A). said_from f ys 0 m ++ zs) (said_on ys m (e - m) (n - e) ∙ ap (λ (i : ℕ). said_from f ys m (e - m) ++ said_from f ys i (n - e)) c)))

  -- ---- a turn of the loop over the sections: section k of the new samples has its say
  pub said_turn : (xs ys : List Float) (m k : ℕ) (came now : List A) (v : A) → m ≤ k → k < length came → take (k * section_size) xs ≡ take (k * section_size) ys
      → now ≡ between m k came (said_from f xs m (k - m)) → v ≡ f k (peak_of (section_of ys k)) → set now k v ≡ between m (k + 1) came (said_from f ys m (k + 1 - m))
  said_turn xs ys m k came now v l h front e is =
      let b : k + 1 - m ≡ suc (k - m) = omega arith in
      let c : m + (k - m) ≡ k = omega arith in
      let same : said_from f xs m (k - m) ≡ said_from f ys m (k - m) = said_shared xs ys m (k - m) k c front in
      ap (λ (zs : List A). set zs k v) e ∙ between-set m k came (said_from f xs m (k - m)) (omega arith) (ap (λ (i : ℕ). m + i) (said_length xs m (k - m)) ∙ c) v h
      ∙ rw (b, said_more ys m (k - m), c, ← is, same) refl

-- the summary that was right, with the sections from section m up to section e worked out anew, is right
pub summed-right : (xs ys : List Float) (m e n : ℕ) → m ≤ e → e ≤ n → take (m * section_size) xs ≡ take (m * section_size) ys → drop (e * section_size) xs ≡ drop (e * section_size) ys
    → summed_between m e (summary_from xs 0 n) (summary_from ys m (e - m)) ≡ summary_from ys 0 n
summed-right xs ys m e n l u front rest = rw (said_right largest xs ys m e n l u front rest, said_right first_number xs ys m e n l u front rest) refl
