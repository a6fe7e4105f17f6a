use Rattle.prelude.proofs.Prelude.{length_unmapped}
use Rattle.std.proofs.Common.{rules}
use Rattle.types_octets.proofs.Laid.{figure_laid_in}
use Rattle.types_octets.proofs.octets_of.Goals as goal

pub returns : goal.returns
returns c =
    figure_laid_in _ _ _ _ (search (length_unmapped, rules)) (search (length_unmapped, rules)) c.to_le_bytes-n.ensures c.to_le_bytes-i.ensures c.to_le_bytes-k.ensures
    (search rules) (search rules) (search rules)
