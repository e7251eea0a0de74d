-- Two outcomes that meet a public function's statement are equal. Assumes nothing.
use Rattle.std.specs.Prelude.{Option}
use mathlib.Core.Path.{◌≡◌, sym, ◌∙◌}
use mathlib.Core.Bool.{Bool}
use mathlib.Core.List.{List}
use Prim.Native.Nat.{ℕ}
use Rattle.state.specs.declared.State.{State}
use Rattle.shelf.specs.Shelf.{entries_for, words_for, entry_of, stored_in, decoded_of, state_of, with_count, meets}

pub entries_unique : (n r t : ℕ) → r ≡ entries_for n → t ≡ entries_for n → r ≡ t
entries_unique n r t p q = p ∙ sym q

pub words_for_unique : (n r t : ℕ) → r ≡ words_for n → t ≡ words_for n → r ≡ t
words_for_unique n r t p q = p ∙ sym q

pub encode_unique : (v : State) (r t : List ℕ) → r ≡ entry_of v → t ≡ entry_of v → r ≡ t
encode_unique v r t p q = p ∙ sym q

pub store_unique : (ws : List ℕ) (v : State) (r t : List ℕ) → r ≡ stored_in ws v → t ≡ stored_in ws v → r ≡ t
store_unique ws v r t p q = p ∙ sym q

pub decode_unique : (ws : List ℕ) (r t : Option State) → r ≡ decoded_of ws → t ≡ decoded_of ws → r ≡ t
decode_unique ws r t p q = p ∙ sym q

pub state_of_unique : (ws : List ℕ) (r t : State) → r ≡ state_of ws → t ≡ state_of ws → r ≡ t
state_of_unique ws r t p q = p ∙ sym q

pub meets_unique : (ws : List ℕ) (v : State) (r t : Bool) → r ≡ meets ws v → t ≡ meets ws v → r ≡ t
meets_unique ws v r t p q = p ∙ sym q

pub recount_unique : (ws : List ℕ) (n : ℕ) (r t : List ℕ) → r ≡ with_count ws n → t ≡ with_count ws n → r ≡ t
recount_unique ws n r t p q = p ∙ sym q
