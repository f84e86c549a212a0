-- A line is divided part by part: where a part is missing it is no rule's, and where all are there it is the rule of its parts.
use mathlib.Core.Path.{sym, ◌∙◌}
use Rattle.contexts.specs.Reader.{read_pair}
use Rattle.matching.proofs.Numbers.{number_none, number_some}
use Rattle.rule_texts.specs.Parts.{operator_of}
use Rattle.rule_texts.proofs.Dividing as dividing
use Rattle.rule_texts.proofs.Found.{cut_rest, rest_whole}
use Rattle.rule_texts.proofs.line.divide.Goals as goal

pub returns-in_err-sign : goal.returns-in_err-sign
returns-in_err-sign c = rw c.from_residual.ensures (record { rule = dividing.no_space c.args.line.now c.in_err-sign.ensures; parts = tt })

pub returns-in_err-operator : goal.returns-in_err-operator
returns-in_err-operator c =
    let none = dividing.no_sign c.args.line.now c.in_ok-sign.sign.now c.in_ok-sign.rest.now c.in_ok-sign.ensures c.in_err-operator.ensures in
    rw c.from_residual-in_err-operator.ensures (record { rule = none; parts = tt })

pub returns-in_err-own : goal.returns-in_err-own
returns-in_err-own c =
    let rest = c.in_ok-sign.rest.now in
    let none = dividing.no_own c.args.line.now c.in_ok-sign.sign.now rest c.in_ok-sign.ensures
    (number_none rest 0 c.pair_number.result (read_pair rest) c.pair_number.ensures c.in_err-own.was) in
    rw c.from_residual-in_err-own.ensures (record { rule = none; parts = tt })

pub returns-then-not-starts : goal.returns-then-not-starts
returns-then-not-starts c =
    let rest = c.in_ok-sign.rest.now in
    let own = c.in_ok-own.own in
    let none = dividing.no_second_space c.args.line.now c.in_ok-sign.sign.now rest c.in_ok-sign.ensures (operator_of c.in_ok-operator.operator) own c.in_ok-operator.ensures
    (number_some rest 0 c.pair_number.result own (read_pair rest) c.pair_number.ensures c.in_ok-own.was) (sym c.starts.ensures ∙ c.if-not-starts.true) in
    record { rule = none; parts = tt }

pub returns-in_err-left : goal.returns-in_err-left
returns-in_err-left c =
    let rest = c.in_ok-sign.rest.now in
    let own = c.in_ok-own.own in
    let left = c.in_err-left.ensures in
    let none = dividing.no_underscore c.args.line.now c.in_ok-sign.sign.now rest c.in_ok-sign.ensures (operator_of c.in_ok-operator.operator) own c.in_ok-operator.ensures
    (number_some rest 0 c.pair_number.result own (read_pair rest) c.pair_number.ensures c.in_ok-own.was) (sym c.starts.ensures ∙ c.if-not-starts.false)
    (rw (rest_whole rest 4) at left) in
    rw c.from_residual-in_err-left.ensures (record { rule = none; parts = tt })

pub returns : goal.returns
returns c =
    let line = c.args.line.now in
    let sign = c.in_ok-sign.sign.now in
    let rest = c.in_ok-sign.rest.now in
    let own = c.in_ok-own.own in
    let left = c.in_ok-left.left.now in
    let right = c.in_ok-left.right.now in
    let cut = cut_rest 95 rest 4 left right c.in_ok-left.ensures in
    record {
      rule = dividing.divided line sign rest c.in_ok-sign.ensures (operator_of c.in_ok-operator.operator) own c.in_ok-operator.ensures
          (number_some rest 0 c.pair_number.result own (read_pair rest) c.pair_number.ensures c.in_ok-own.was) (sym c.starts.ensures ∙ c.if-not-starts.false) left right cut;
      parts = dividing.parts_of line sign rest left right c.in_ok-sign.ensures cut;
    }
