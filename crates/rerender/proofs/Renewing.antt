-- The numbers of records acted renewed from an entry on: the loop that does it, on plain values; that the sizes stay,
-- and what lies before; each entry; and entries of states. Assumes nothing.
use mathlib.Core.Path.{◌≡◌, refl, sym, ap, ◌∙◌}
use mathlib.Core.Bool.{true}
use mathlib.Core.List.{List, ◌∷◌, ◌++◌, append_assoc}
use Prim.Native.Nat.{ℕ, zero, suc, ◌+◌, ◌-◌, ◌*◌, ◌/◌, ◌≤◌, ◌<◌}
use native.Mathlib.Nat.{add-zero}
use native.Mathlib.Omega.{arith}
use lib.ListN.{length, take, drop, take-append-drop, length-append, length-drop}
use Rattle.runs.specs.Runs.{listed}
use Rattle.runs.proofs.Listed.{listed_on}
use lib.Seq.{take_at, drop_at, drop-drop, length-take-le}
use borrow.Rule.Slice.PartMut.{put_mid, mid_of, mid_len, same_len_mid, drop_put}
use Rattle.score.specs.Below.{count_below, next_not_below, Sorted}
use Rattle.score.proofs.Ends.{next-cut, next-count}
use Rattle.shelf.specs.Shelf.{section_size, entry_words, entries_for, entry_of, shelf_of, entry_at, with_count}
use Rattle.shelf.proofs.There.{entry_length}
use Rattle.shelf.proofs.Counted.{recount-length, entry-same}
use Rattle.spans.proofs.Turns.{take_mid}
use Rattle.state.specs.declared.State.{State}
use Rattle.state.specs.Limits.{is_state}
use Rattle.state.specs.ButActed.{SameButActed}
use Rattle.sections.specs.Outcome.{Buffers, samples_in, before}
use Rattle.rerender.specs.Rerender.{recounted, recounted_from}
use Rattle.rerender.specs.Inner.{Behind, recounted_on}

-- ---- the loop
-- what is still to be done from entry k on gives the whole
pub record Recounting (s : List ℕ) (section : ℕ) (came ws : List ℕ) (acted k : ℕ) : Type 0 where
  pub len : length ws ≡ length came
  pub behind : Behind s acted (k * section_size)
  pub rest : recounted_on s section came ≡ take (k * entry_words) ws ++ recounted s k (length came / entry_words - k) (drop (k * entry_words) ws)

module _ (s : List ℕ) (o : Sorted s) (section : ℕ) (came : List ℕ) where
  pub recount-first : (next : ℕ) → Behind s next (section * section_size) → Recounting s section came came next section
  recount-first next h = record { len = refl; behind = h; rest = refl }

  module _ (ws : List ℕ) (acted k : ℕ) (r : Recounting s section came ws acted k) where
    pub recount-last : length came / entry_words ≤ k → ws ≡ recounted_on s section came
    unfolding recounted
    recount-last h = let e : length came / entry_words - k ≡ 0 = omega arith in sym (r.rest ∙ rw e (take-append-drop (k * entry_words) ws))

    module _ (h : k < length came / entry_words) where
      pub within : k * entry_words + entry_words ≤ length ws
      within = omega (arith, r.len)

      module _ (next : ℕ) (is : next ≡ next_not_below s acted (k * section_size)) (zs : List ℕ) (put : zs ≡ with_count (mid_of (k * entry_words) (k * entry_words + entry_words - k * entry_words) ws) next) where
        width : k * entry_words + entry_words - k * entry_words ≡ entry_words
        width = omega arith

        renewed : zs ≡ with_count (take entry_words (drop (k * entry_words) ws)) (count_below s (k * section_size))
        renewed = put ∙ rw (width, is, next-count s o r.behind.position acted (k * section_size) r.behind.cut r.behind.low) refl

        long : length zs ≡ entry_words
        long = ap length put ∙ recount-length (mid_of (k * entry_words) (k * entry_words + entry_words - k * entry_words) ws) next ∙ mid_len (k * entry_words) (k * entry_words + entry_words) ws within ∙ width

        pub recount_on : Recounting s section came (put_mid (k * entry_words) entry_words ws zs) next (k + 1)
        unfolding recounted
        recount_on =
            let a : (k + 1) * entry_words ≡ k * entry_words + entry_words = omega arith in
            let d : length came / entry_words - k ≡ suc (length came / entry_words - (k + 1)) = omega arith in
            let u : suc k ≡ k + 1 = omega arith in
            let after : drop (k * entry_words + entry_words) (put_mid (k * entry_words) entry_words ws zs) ≡ drop entry_words (drop (k * entry_words) ws) =
            rw width at (drop_put (k * entry_words) (k * entry_words + entry_words) ws zs (omega arith) within (long ∙ sym width)) ∙ sym (drop-drop entry_words (k * entry_words) ws) in
            record {
              len = same_len_mid (k * entry_words) entry_words ws zs (long ∙ sym (rw width at (mid_len (k * entry_words) (k * entry_words + entry_words) ws within))) ∙ r.len;
              behind = record { position = k * section_size; cut = rw is (next-cut s o r.behind.position acted (k * section_size) r.behind.cut r.behind.low); low = omega arith };
              rest = r.rest ∙ rw (d, a, after, take_mid (k * entry_words) entry_words ws zs (omega (arith, within)) long, renewed, u)
                  (sym (append_assoc (take (k * entry_words) ws) (with_count (take entry_words (drop (k * entry_words) ws)) (count_below s (k * section_size))) (recounted s (k + 1) (length came / entry_words - (k + 1)) (drop entry_words (drop (k * entry_words) ws)))));
            }

-- ---- the words
pub recounted-length : (s : List ℕ) (k j : ℕ) (ws : List ℕ) → length (recounted s k j ws) ≡ length ws
unfolding recounted
recounted-length s k zero ws = refl
recounted-length s k (suc j) ws =
    length-append (with_count (take entry_words ws) (count_below s (k * section_size))) (recounted s (suc k) j (drop entry_words ws))
    ∙ rw (recount-length (take entry_words ws) (count_below s (k * section_size)), recounted-length s (suc k) j (drop entry_words ws)) (sym (length-append (take entry_words ws) (drop entry_words ws)) ∙ ap length (take-append-drop entry_words ws))

-- entry i of the j
pub recounted-at : (s : List ℕ) (k j i : ℕ) (ws : List ℕ) → j * entry_words ≤ length ws → i < j → entry_at (recounted s k j ws) i ≡ with_count (entry_at ws i) (count_below s ((k + i) * section_size))
unfolding recounted
recounted-at s k zero i ws l h = absurd (omega arith)
recounted-at s k (suc j) zero ws l h =
    rw (add-zero k) (take_at (with_count (take entry_words ws) (count_below s (k * section_size))) (recounted s (suc k) j (drop entry_words ws)) entry_words (recount-length (take entry_words ws) (count_below s (k * section_size)) ∙ length-take-le entry_words ws (omega arith)))
recounted-at s k (suc j) (suc i) ws l h =
    let e : suc i * entry_words ≡ entry_words + i * entry_words = omega arith in
    let c : k + suc i ≡ suc k + i = omega arith in
    let first : length (with_count (take entry_words ws) (count_below s (k * section_size))) ≡ entry_words = recount-length (take entry_words ws) (count_below s (k * section_size)) ∙ length-take-le entry_words ws (omega arith) in
    rw (e, c, ← drop-drop (i * entry_words) entry_words (with_count (take entry_words ws) (count_below s (k * section_size)) ++ recounted s (suc k) j (drop entry_words ws)), ← drop-drop (i * entry_words) entry_words ws, drop_at (with_count (take entry_words ws) (count_below s (k * section_size))) (recounted s (suc k) j (drop entry_words ws)) entry_words first)
    (recounted-at s (suc k) j i (drop entry_words ws) (omega (arith, length-drop entry_words ws)) (omega arith))

-- the words of states, renewed, are those of states that are the same but for the number of records acted
pub record Renewed (s : List ℕ) (k : ℕ) (old new : State) : Type 0 where
  pub old_state : is_state old ≡ true
  pub new-state : is_state new ≡ true
  pub same : SameButActed old new
  pub acted : new.acted ≡ count_below s (k * section_size)

listed-first : (f : ℕ → State) (j : ℕ) → listed f (suc j) ≡ f 0 ∷ listed (λ (i : ℕ). f (1 + i)) j
unfolding listed
listed-first f j = let e : suc j ≡ 1 + j = omega arith in ap (listed f) e ∙ listed_on f 1 j

pub recounted-listed : (s : List ℕ) (k j : ℕ) (old new : ℕ → State) → ((i : ℕ) → i < j → Renewed s (k + i) (old i) (new i)) → recounted s k j (shelf_of (listed old j)) ≡ shelf_of (listed new j)
unfolding recounted listed shelf_of
recounted-listed s k zero old new h = refl
recounted-listed s k (suc j) old new h =
    let r : Renewed s k (old 0) (new 0) = rw (add-zero k) at (h 0 (omega arith)) in
    let rest = recounted-listed s (suc k) j (λ (i : ℕ). old (1 + i)) (λ (i : ℕ). new (1 + i)) (λ i l. (let e : suc k + i ≡ k + (1 + i) = omega arith in rw e (h (1 + i) (omega arith)))) in
    rw (
      listed-first old j,
      listed-first new j,
      take_at (entry_of (old 0)) (shelf_of (listed (λ (i : ℕ). old (1 + i)) j)) entry_words (entry_length (old 0)),
      drop_at (entry_of (old 0)) (shelf_of (listed (λ (i : ℕ). old (1 + i)) j)) entry_words (entry_length (old 0)),
      rest,
      ← r.acted,
      entry-same (old 0) (new 0) r.old_state r.new-state r.same,
    ) refl

-- ---- the buffers
module _ (s : List ℕ) (k : ℕ) (b : Buffers) (fits : length b.stored ≡ entries_for (samples_in b) * entry_words) (l : k ≤ entries_for (samples_in b)) where
  -- the code counts the entries by the words
  pub renewed_is : recounted_on s k b.stored ≡ (recounted_from s k b).stored
  renewed_is = let e : length b.stored / entry_words ≡ entries_for (samples_in b) = omega (arith, fits) in rw e refl

  inside : k * entry_words ≤ length b.stored
  inside = omega (arith, fits)

  pub renewed_words : length (recounted_from s k b).stored ≡ length b.stored
  renewed_words =
      length-append (take (k * entry_words) b.stored) _ ∙ ap (λ (i : ℕ). length (take (k * entry_words) b.stored) + i) (recounted-length s k (entries_for (samples_in b) - k) (drop (k * entry_words) b.stored))
      ∙ sym (length-append (take (k * entry_words) b.stored) (drop (k * entry_words) b.stored)) ∙ ap length (take-append-drop (k * entry_words) b.stored)

  -- what lies before entry k stays
  pub renewed_before : before k (recounted_from s k b) ≡ before k b
  renewed_before = rw (take_at (take (k * entry_words) b.stored) (recounted s k (entries_for (samples_in b) - k) (drop (k * entry_words) b.stored)) (k * entry_words) (length-take-le (k * entry_words) b.stored inside)) refl

  pub renewed_after : drop (k * entry_words) (recounted_from s k b).stored ≡ recounted s k (entries_for (samples_in b) - k) (drop (k * entry_words) b.stored)
  renewed_after = drop_at (take (k * entry_words) b.stored) (recounted s k (entries_for (samples_in b) - k) (drop (k * entry_words) b.stored)) (k * entry_words) (length-take-le (k * entry_words) b.stored inside)

  -- entry j, from entry k on
  pub renewed_entry : (j : ℕ) → k ≤ j → j < entries_for (samples_in b) → entry_at (recounted_from s k b).stored j ≡ with_count (entry_at b.stored j) (count_below s (j * section_size))
  renewed_entry j h u =
      let i = j - k in
      let e : j * entry_words ≡ k * entry_words + i * entry_words = omega arith in
      let c : k + i ≡ j = omega arith in
      rw (e, ← drop-drop (i * entry_words) (k * entry_words) (recounted_from s k b).stored, ← drop-drop (i * entry_words) (k * entry_words) b.stored, renewed_after)
      (recounted-at s k (entries_for (samples_in b) - k) i (drop (k * entry_words) b.stored) (omega (arith, length-drop (k * entry_words) b.stored, fits)) (omega arith) ∙ rw c refl)
