-- What a search in these functions' proofs may use.
use Rattle.write_elements.proofs.Parts.{wrote_is, wrote_nothing}
use Rattle.coding.proofs.{Small.small_length, Writing.{room_as, width_range}}
use Rattle.write_figures.proofs.Sizes.{lead_two, scaled_length, money_count, money_fits, money_length}
use Rattle.write_figures.proofs.Frames.{billing_some, billing_none, marks_during_length, marks_ending}

pub ruleset parts = (wrote_is, wrote_nothing, small_length, room_as, width_range, lead_two, scaled_length, money_count, money_fits, money_length, billing_some, billing_none, marks_during_length, marks_ending)
