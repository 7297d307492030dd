use Rattle.std.proofs.Common.{◌≡◌, List}
use Rattle.ndef_format.specs.Messages.{Item}
use Rattle.ndef_format.specs.declared.profile.Profile.TheVariants.{Standard}
use Rattle.ndef_types.specs.Contents.{Lack}
use Rattle.ndef_c.specs.Posters.{HasPosterRecords}
use Rattle.ndef_c.specs.Titles.{IsTitleIn}
use Rattle.ndef_c.proofs.Ahead.{Ahead}
use Rattle.ndef_c.proofs.titles.title_in.Given as goal

abbrev pub invariant-loop-found : goal.invariant-loop-found
invariant-loop-found l = record {
  items : List Item;
  records : HasPosterRecords Standard items l.payload;
  same : l.found-iterator.bytes.now ≡ l.payload;
  done : List Item;
  ahead : Ahead items l.payload l.found-iterator done;
  lack : Lack (IsTitleIn l.language) done;
}
