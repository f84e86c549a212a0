-- Each test that fails is the judgement, and past the three the rules decide. The header that is passed is the image's own.
use Prim.Native.Nat.{ℕ}
use mathlib.Core.Bool.{Bool, true, false}
use mathlib.Core.Path.{◌≡◌, sym, ap, ◌∙◌}
use mathlib.Core.List.{List}
use lib.Dec.{ltb}
use Rattle.model.specs.Lists.{every}
use Rattle.model.specs.Blocks.{Header, header}
use Rattle.model.specs.Readings.{pairing_length}
use Rattle.model.proofs.Booleans.{and_out, of_true}
use Rattle.judge.proofs.Judgements.{told}
use Rattle.judge.proofs.PairingLaws.{pairing_right}
use Rattle.rule_texts.specs.Text.{pairs_known}
use Rattle.written_rules.proofs.Judgements.{test13, test20, refused_13, refused_19, refused_20, decided}
use Rattle.written_rules.proofs.judge_accepted.Goals as goal

-- what the tests of the pairing and of the pairs say, by the header's number of pairs
module _ (image pairing text : List ℕ) (pairs : ℕ) (same : pairs ≡ (header image).pairs) (b v : Bool) (is : b ≡ v) where
  told_13 : b ≡ pairing_right pairs pairing → test13 image pairing text ≡ v
  told_13 e = sym (e ∙ ap (λ (n : ℕ). pairing_right n pairing) same) ∙ is

  told_20 : b ≡ pairs_known pairs text → test20 image pairing text ≡ v
  told_20 e = sym (e ∙ ap (λ (n : ℕ). pairs_known n text) same) ∙ is

pub returns-then-not-pairing_right : goal.returns-then-not-pairing_right
returns-then-not-pairing_right c =
    let a = c.args in
    let same : a.h.pairs ≡ (header a.image.now).pairs = ap (λ (h : Header). h.pairs) c.requires.laid.header_is in
    refused_13 a.image.now a.pairing.now a.text.now (told_13 a.image.now a.pairing.now a.text.now a.h.pairs same c.pairing_right.result false c.if-not-pairing_right.true c.pairing_right.ensures)

pub returns-then-not-is_text : goal.returns-then-not-is_text
returns-then-not-is_text c =
    let a = c.args in
    let same : a.h.pairs ≡ (header a.image.now).pairs = ap (λ (h : Header). h.pairs) c.requires.laid.header_is in
    let t13 = told_13 a.image.now a.pairing.now a.text.now a.h.pairs same c.pairing_right.result true c.if-not-pairing_right.false c.pairing_right.ensures in
    refused_19 a.image.now a.pairing.now a.text.now t13 (sym c.is_text.ensures ∙ c.if-not-is_text.true)

pub returns-then-not-pairs_known : goal.returns-then-not-pairs_known
returns-then-not-pairs_known c =
    let a = c.args in
    let same : a.h.pairs ≡ (header a.image.now).pairs = ap (λ (h : Header). h.pairs) c.requires.laid.header_is in
    let t13 = told_13 a.image.now a.pairing.now a.text.now a.h.pairs same c.pairing_right.result true c.if-not-pairing_right.false c.pairing_right.ensures in
    let t20 = told_20 a.image.now a.pairing.now a.text.now a.h.pairs same c.pairs_known.result false c.if-not-pairs_known.true c.pairs_known.ensures in
    refused_20 a.image.now a.pairing.now a.text.now t13 (sym c.is_text.ensures ∙ c.if-not-is_text.false) t20

pub obeys_text-requires : goal.obeys_text-requires
obeys_text-requires c =
    let a = c.args in
    let ps = a.pairing.now in
    let same : a.h.pairs ≡ (header a.image.now).pairs = ap (λ (h : Header). h.pairs) c.requires.laid.header_is in
    let t13 = told_13 a.image.now ps a.text.now a.h.pairs same c.pairing_right.result true c.if-not-pairing_right.false c.pairing_right.ensures in
    let right = and_out (pairing_length ps) (every (λ p. ltb p (header a.image.now).pairs) ps) (of_true (pairing_right (header a.image.now).pairs ps) t13) in
    record {
      laid = (c.requires.laid, right.1);
      t = right.0;
      text_value = (sym c.is_text.ensures ∙ c.if-not-is_text.false, sym c.pairs_known.ensures ∙ c.if-not-pairs_known.false);
    }

pub returns : goal.returns
returns c =
    let a = c.args in
    let same : a.h.pairs ≡ (header a.image.now).pairs = ap (λ (h : Header). h.pairs) c.requires.laid.header_is in
    let t13 = told_13 a.image.now a.pairing.now a.text.now a.h.pairs same c.pairing_right.result true c.if-not-pairing_right.false c.pairing_right.ensures in
    let t20 = told_20 a.image.now a.pairing.now a.text.now a.h.pairs same c.pairs_known.result true c.if-not-pairs_known.false c.pairs_known.ensures in
    told c.obeys_text.result ∙ decided a.image.now a.pairing.now a.text.now t13 (sym c.is_text.ensures ∙ c.if-not-is_text.false) t20 c.obeys_text.result (sym c.obeys_text.ensures)
