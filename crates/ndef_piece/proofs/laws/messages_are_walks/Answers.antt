use Rattle.ndef_piece.proofs.Walks.{walks_are_messages, walks_are_cut}
use Rattle.ndef_piece.proofs.WalksOn.{runs_go_on, walks_can_end}
use Rattle.ndef_piece.proofs.WalksCounted.{walks_are_counted}
use Rattle.ndef_piece.proofs.laws.messages_are_walks.Goals as goal

pub returns : goal.returns
returns c = record { messages = walks_are_messages; cut = walks_are_cut; counted = walks_are_counted; end = walks_can_end; run = runs_go_on }
