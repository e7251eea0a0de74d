-- What the call leaves in a lent buffer. Definitions only.
use Rattle.std.specs.Prelude.{◌≡◌, cond, List, ◌++◌, ℕ, ◌≤◌, ltb, length, drop}
use Rattle.listing.specs.Listing.{listing_of}

-- the listing and its length, and the rest of the buffer as it came; or nothing and 0, if the buffer has fewer than
-- 102,413 bytes, the length that no listing exceeds
pub record Listed (score before after : List ℕ) (count : ℕ) : Type 0 where
  pub inside : count ≤ length after
  pub counted : count ≡ cond (ltb (length before) 102413) 0 (length (listing_of score))
  pub written : after ≡ cond (ltb (length before) 102413) before (listing_of score ++ drop (length (listing_of score)) before)
