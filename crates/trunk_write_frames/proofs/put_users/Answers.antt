use Rattle.write_elements.proofs.Parts.{wrote_two}
use Rattle.trunk_write_frames.proofs.Sizes.{users_split}
use Rattle.trunk_write_frames.proofs.put_users.Goals as goal

pub returns : goal.returns
returns c = wrote_two (users_split c.association_of-u.ensures c.association_of-a.ensures) c.put_party-p.ensures c.put_association.ensures
