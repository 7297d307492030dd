use Rattle.std.proofs.Common.{◌<◌, length, arith}
use Rattle.std.proofs.lemmas.Bool.{ltb-true, lt-ltb}
use Rattle.ndef_types.proofs.UriLaws.{is_long, too_long}
use Rattle.ndef_types.proofs.builder.uri_fits.Goals as goal

pub returns : goal.returns
returns c =
    let uri = c.args.uri.now in
    let code = c.split.result.0 in
    let rest = c.split.result.1.now in
    let s = c.split.ensures in (
      λ n. let m : ¬ (length rest < 4294967295) = λ l. n (lt-ltb (length rest) 4294967295 l) in too_long uri rest code s.longest s.split (omega (arith, m)),
      λ h t. omega (arith, ltb-true (length rest) 4294967295 t, is_long uri rest code s.longest s.split h),
    )
