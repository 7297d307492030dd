use Rattle.std.proofs.Common.{length, ap, arith}
use Rattle.ndef_c.proofs.items.uri_value.Goals as goal

pub overflow_add-result : goal.overflow_add-result
overflow_add-result c =
    let u = c.requires.uri in
    let x = c.uri_at-uri.ensures u.0 u.1 in
    let n = ap length x.following in
    let p = x.place in
    let f = c.requires.fits in
    omega (arith, n, p, f)

pub overflow_cast-result : goal.overflow_cast-result
overflow_cast-result c =
    let u = c.requires.uri in
    let x = c.uri_at-uri.ensures u.0 u.1 in
    let n = ap length x.following in
    let p = x.place in
    let f = c.requires.fits in
    omega (arith, n, p, f)

pub overflow_cast-result-2 : goal.overflow_cast-result-2
overflow_cast-result-2 c =
    let u = c.requires.uri in
    let x = c.uri_at-uri.ensures u.0 u.1 in
    let n = ap length x.following in
    let k = x.count in
    let f = c.requires.fits in
    omega (arith, n, k, f)
