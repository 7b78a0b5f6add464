use Rattle.std.proofs.Common.{◌≡◌, ◌∙◌, ◌<◌, ◌≤◌, ap, subst, length, true, arith, rules}
use Rattle.std.specs.List.{list_all}
use Rattle.std.specs.Result.{result_ok}
use Rattle.std.specs.Str.Parse.{ParsesUnsigned}
use Rattle.host_driver.specs.SizeText.{is_hex}
use Rattle.host_driver.proofs.SizeLemmas.{hex-read}
use Rattle.host_driver.proofs.size.read_hex.Goals as goal

pub returns : goal.returns
returns c =
    let r = c.from_str_radix.result in
    let some : 0 < length c.args.digits.now = search rules in
    let short : length c.args.digits.now ≤ 16 = omega (arith, c.if-digits-gt-MOST_DIGITS.false) in
    let all : list_all is_hex c.args.digits.now ≡ true = search rules in
    let same : c.in-Ok.text.now ≡ c.args.digits.now = search rules in
    hex-read c.args.digits.now r some short all (subst (λ t. ParsesUnsigned 64 16 t r) same c.from_str_radix.ensures.value) c.ok.result (λ n e. c.ok.ensures.value ∙ ap result_ok e) (λ x e. c.ok.ensures.value ∙ ap result_ok e)
