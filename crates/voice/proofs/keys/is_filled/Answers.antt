-- `voice::keys::is_filled` meets its contract: a byte is at most 0 where it is 0. Assumes nothing.
use Rattle.std.proofs.Common.{rules, tests, ◌≡◌, refl, take, drop, nat_eq}
use Rattle.std.specs.List.{list_all}
use lib.Dec.{leb}
use Rattle.std.proofs.lemmas.Iterator.{YieldsList-from_slice, YieldsList-from_take}
use Rattle.std.proofs.lemmas.Iterator.Adapters.{YieldsList-from_skip}
use Rattle.std.proofs.lemmas.Iterator.Search.{all_from_yields_List}
use Rattle.voice.specs.Keys.{at_most}
use Rattle.voice.proofs.Arrays.{zeros_tested}
use Rattle.voice.proofs.keys.is_filled.Goals as goal

pub returns : goal.returns
unfolding at_most
returns c =
    let n = c.args.count in
    let xs = c.args.bytes in
    let held : c.all.result ≡ at_most 127 (take n xs) = all_from_yields_List (λ x. leb x 127) _ _ c.all.result c.all.ensures.ran (YieldsList-from_take n (YieldsList-from_slice xs (cc)) (cc)) (λ x b q k. search (rules, tests)) in
    let unused : c.all-2.result ≡ list_all (λ x. nat_eq x 0) (drop n xs) = all_from_yields_List (λ x. nat_eq x 0) _ _ c.all-2.result c.all-2.ensures.ran (YieldsList-from_skip n (YieldsList-from_slice xs (cc)) (cc)) (λ x b q k. search (rules, tests)) in
    rw (held, unused, zeros_tested (drop n xs)) refl
