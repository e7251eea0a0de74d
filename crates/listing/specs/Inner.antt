-- What private functions are held to: a text in a buffer, before and after more is put at its end. No public statement
-- cites these definitions. Definitions only.
use Rattle.std.specs.Prelude.{◌≡◌, List, ◌++◌, ℕ, ◌+◌, ◌≤◌, length, take, drop}
use Rattle.listing.specs.declared.Text.{Text}

-- the buffer has n bytes of room after the text
abbrev pub HasRoom : ℕ → Text → Type 0
HasRoom n t = t.len + n ≤ length t.out.now

-- `more` is at the end of the text, and the rest of the buffer is as it was
pub record Put (more : List ℕ) (before after : Text) : Type 0 where
  pub same_buffer : after.out.ghost_name ≡ before.out.ghost_name
  pub room : before.len + length more ≤ length before.out.now
  pub same_length : length after.out.now ≡ length before.out.now
  pub moved : after.len ≡ before.len + length more
  pub bytes : after.out.now ≡ take before.len before.out.now ++ more ++ drop (before.len + length more) before.out.now
