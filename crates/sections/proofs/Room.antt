-- Buffers whose sizes fit, buffers that hold the same, and buffers that do before a section or from one on. Assumes
-- nothing.
use mathlib.Core.Path.{◌≡◌, refl, sym, ap, ◌∙◌}
use mathlib.Core.Bool.{true}
use mathlib.Core.List.{List}
use Prim.Native.Nat.{ℕ, ◌+◌, ◌-◌, ◌*◌, ◌≤◌}
use native.Mathlib.Omega.{arith}
use lib.ListN.{length, take, drop}
use lib.Seq.{take-take, drop-drop}
use Rattle.judging.proofs.Refusals.{roomy, fits-roomy}
use Rattle.shelf.specs.Shelf.{section_size, entry_words}
use Rattle.sections.specs.Outcome.{Buffers, samples_in, room_in, Lent, before, onward}

pub in_room : (b : Buffers) → room_in b ≡ true → Lent b
in_room b f = roomy (samples_in b) (length b.stored) (length b.summary.magnitudes) (length b.summary.numbers) f

pub room_in_lem : (b : Buffers) → Lent b → room_in b ≡ true
room_in_lem b r = fits-roomy (samples_in b) (length b.stored) (length b.summary.magnitudes) (length b.summary.numbers) r

-- buffers that hold the same are the same
pub same-buffers : (b c : Buffers) → b.heard ≡ c.heard → b.stored ≡ c.stored → b.summary ≡ c.summary → b ≡ c
same-buffers b c x y z = rw (x, y, z) refl

-- buffers that are the same before section e are so before an earlier section
pub earlier : (m e : ℕ) (b c : Buffers) → m ≤ e → before e b ≡ before e c → before m b ≡ before m c
earlier m e b c l h =
    rw (
      shorter (m * section_size) (e * section_size) b.heard c.heard (omega arith) (ap (λ (d : Buffers). d.heard) h),
      shorter (m * entry_words) (e * entry_words) b.stored c.stored (omega arith) (ap (λ (d : Buffers). d.stored) h),
      shorter m e b.summary.magnitudes c.summary.magnitudes l (ap (λ (d : Buffers). d.summary.magnitudes) h),
      shorter m e b.summary.numbers c.summary.numbers l (ap (λ (d : Buffers). d.summary.numbers) h),
    )
    refl
  where
    shorter : {A : Type 0} (i j : ℕ) (xs ys : List A) → i ≤ j → take j xs ≡ take j ys → take i xs ≡ take i ys
    shorter i j xs ys l h = sym (take-take i j xs l) ∙ ap (take i) h ∙ take-take i j ys l

-- words that are the same from section e on are so from any later section on
pub later_words : (e k : ℕ) (b c : Buffers) → e ≤ k → onward e b ≡ onward e c → drop (k * entry_words) b.stored ≡ drop (k * entry_words) c.stored
later_words e k b c l h =
    let d : e * entry_words + (k - e) * entry_words ≡ k * entry_words = omega arith in
    rw (← d, ← drop-drop ((k - e) * entry_words) (e * entry_words) b.stored, ← drop-drop ((k - e) * entry_words) (e * entry_words) c.stored) (ap (λ (u : Buffers). drop ((k - e) * entry_words) u.stored) h)

-- so of any list
pub later_drop : {A : Type 0} (k j : ℕ) (xs ys : List A) → k ≤ j → drop k xs ≡ drop k ys → drop j xs ≡ drop j ys
later_drop k j xs ys l h =
    let d : k + (j - k) ≡ j = omega arith in
    rw (← d, ← drop-drop (j - k) k xs, ← drop-drop (j - k) k ys, h) refl
