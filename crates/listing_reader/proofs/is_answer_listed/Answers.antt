-- `listing_reader::is_answer_listed` meets its contract.
use Rattle.definitions.proofs.Deciding.{says_yes}
use Rattle.listing_reader.proofs.Listings.{listed_as, says_below}
use Rattle.listing_reader.proofs.is_answer_listed.Goals as goal

pub returns-in-Ok : goal.returns-in-Ok
returns-in-Ok c = listed_as _ _ _ _ c.in-Ok.is (says_below _ _)

pub returns-in-Empty : goal.returns-in-Empty
returns-in-Empty c = listed_as _ _ _ _ c.in-Empty.is (says_yes tt)

pub returns-in-Spent : goal.returns-in-Spent
returns-in-Spent c = listed_as _ _ _ _ c.in-Spent.is (says_below _ _)

pub returns-in-Refused : goal.returns-in-Refused
returns-in-Refused c = listed_as _ _ _ _ c.in-Refused.is (says_yes tt)
