-- A whole shelf: its entries joined, their number of words, and each found again. Assumes nothing.
use mathlib.Core.Path.{◌≡◌, refl, sym, ap, ◌∙◌}
use mathlib.Core.List.{List, [], ◌∷◌, ◌++◌, append_assoc, append-nil}
use Prim.Native.Nat.{ℕ, zero, suc, ◌+◌, ◌*◌, ◌<◌}
use native.Mathlib.Omega.{arith}
use lib.ListN.{length, get_or, take, drop, length-append}
use lib.Seq.{take_at, drop-append-add}
use Rattle.score.proofs.Parted.{none_below}
use Rattle.state.specs.declared.State.{State}
use Rattle.shelf.specs.Shelf.{entry_words, entry_of, shelf_of}
use Rattle.shelf.proofs.There.{entry_length}

pub shelf_append : (vs ws : List State) → shelf_of (vs ++ ws) ≡ shelf_of vs ++ shelf_of ws
unfolding shelf_of
shelf_append [] ws = refl
shelf_append (v ∷ vs) ws = rw (shelf_append vs ws) (sym (append_assoc (entry_of v) (shelf_of vs) (shelf_of ws)))

-- one more entry
pub shelf_more : (vs : List State) (v : State) → shelf_of (vs ++ (v ∷ [])) ≡ shelf_of vs ++ entry_of v
unfolding shelf_of
shelf_more vs v = shelf_append vs (v ∷ []) ∙ ap (λ (l : List ℕ). shelf_of vs ++ l) (append-nil (entry_of v))

pub shelf_length : (vs : List State) → length (shelf_of vs) ≡ length vs * entry_words
unfolding shelf_of
shelf_length [] = refl
shelf_length (v ∷ vs) = rw (length-append (entry_of v) (shelf_of vs), entry_length v, shelf_length vs) (omega arith)

-- the words of entry i are those of state i
pub entry_words_lem : (vs : List State) (i : ℕ) (d : State) → i < length vs → take entry_words (drop (i * entry_words) (shelf_of vs)) ≡ entry_of (get_or vs i d)
unfolding shelf_of
entry_words_lem [] i d h = absurd (none_below i h)
entry_words_lem (v ∷ vs) zero d h = take_at (entry_of v) (shelf_of vs) entry_words (entry_length v)
entry_words_lem (v ∷ vs) (suc i) d h =
    let e : suc i * entry_words ≡ length (entry_of v) + i * entry_words = rw (entry_length v) (omega arith) in
    rw (e, drop-append-add (entry_of v) (shelf_of vs) (i * entry_words)) (entry_words_lem vs i d (omega arith))
