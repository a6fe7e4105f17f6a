use Rattle.std.proofs.Common.{rules, take}
use Rattle.std.proofs.lemmas.Iterator.{YieldsList-from_slice}
use Rattle.std.proofs.lemmas.Iterator.Search.{all_from_yields_List}
use Rattle.octets.proofs.Slices.{every_front}
use Rattle.types.specs.Charges.{is_digit}
use Rattle.write_tests.proofs.all_digits.Goals as goal

pub returns : goal.returns
returns c = every_front is_digit c.args.s.now c.args.n _ (all_from_yields_List {all = take c.args.n c.args.s.now} is_digit _ _ _ c.all.ensures.ran (YieldsList-from_slice _ (search rules)) (λ x b q k. search rules))
