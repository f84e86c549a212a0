-- The theorem of each public call, one by one: from whatever it is lent it returns, and then its `ensures` hold.
use Rattle.analyser.proofs.analyse.Statement as analyse-statement
use Rattle.analyser.proofs.analyse.Met as analyse-met
use Rattle.analyser.proofs.generate.Statement as generate-statement
use Rattle.analyser.proofs.generate.Met as generate-met
use Rattle.image.proofs.seal.seal.Statement as seal-statement
use Rattle.image.proofs.seal.seal.Met as seal-met
use Rattle.grammar.proofs.check.Statement as check-statement
use Rattle.grammar.proofs.check.Met as check-met
use Rattle.grammar.proofs.form_reply.Statement as form-reply-statement
use Rattle.grammar.proofs.form_reply.Met as form-reply-met
use Rattle.grammar.proofs.form_view.Statement as form-view-statement
use Rattle.grammar.proofs.form_view.Met as form-view-met
use Rattle.judge.proofs.judge.Statement as judge-statement
use Rattle.judge.proofs.judge.Met as judge-met
use Rattle.written_rules.proofs.judge_rules.Statement as judge-rules-statement
use Rattle.written_rules.proofs.judge_rules.Met as judge-rules-met
use Rattle.spelling.proofs.spell.Statement as spell-statement
use Rattle.spelling.proofs.spell.Met as spell-met
use Rattle.many.proofs.analyse_words.Statement as analyse-words-statement
use Rattle.many.proofs.analyse_words.Met as analyse-words-met
use Rattle.converter.proofs.convert.Statement as convert-statement
use Rattle.converter.proofs.convert.Met as convert-met
use Rattle.headwords.proofs.headwords_analyse.Statement as headwords-analyse-statement
use Rattle.headwords.proofs.headwords_analyse.Met as headwords-analyse-met
use Rattle.headwords.proofs.headwords_analyse_words.Statement as headwords-analyse-words-statement
use Rattle.headwords.proofs.headwords_analyse_words.Met as headwords-analyse-words-met
use Rattle.headwords.proofs.headwords_generate.Statement as headwords-generate-statement
use Rattle.headwords.proofs.headwords_generate.Met as headwords-generate-met
use Rattle.headwords.proofs.headwords_seal.Statement as headwords-seal-statement
use Rattle.headwords.proofs.headwords_seal.Met as headwords-seal-met
use Rattle.headwords.proofs.headwords_check.Statement as headwords-check-statement
use Rattle.headwords.proofs.headwords_check.Met as headwords-check-met
use Rattle.headwords.proofs.headwords_judge.Statement as headwords-judge-statement
use Rattle.headwords.proofs.headwords_judge.Met as headwords-judge-met
use Rattle.headwords.proofs.headwords_judge_rules.Statement as headwords-judge-rules-statement
use Rattle.headwords.proofs.headwords_judge_rules.Met as headwords-judge-rules-met
use Rattle.headwords.proofs.headwords_form.Statement as headwords-form-statement
use Rattle.headwords.proofs.headwords_form.Met as headwords-form-met
use Rattle.headwords.proofs.headwords_spell.Statement as headwords-spell-statement
use Rattle.headwords.proofs.headwords_spell.Met as headwords-spell-met
use Rattle.headwords.proofs.headwords_convert.Statement as headwords-convert-statement
use Rattle.headwords.proofs.headwords_convert.Met as headwords-convert-met

-- at every model of the machine
abbrev pub Ends : Type 1 → Type 2
Ends M =
    analyse-statement.statement M
    × generate-statement.statement M
    × seal-statement.statement M
    × check-statement.statement M
    × form-reply-statement.statement M
    × form-view-statement.statement M
    × judge-statement.statement M
    × judge-rules-statement.statement M
    × spell-statement.statement M
    × analyse-words-statement.statement M
    × convert-statement.statement M
    × headwords-analyse-statement.statement M
    × headwords-generate-statement.statement M
    × headwords-seal-statement.statement M
    × headwords-check-statement.statement M
    × headwords-judge-statement.statement M
    × headwords-judge-rules-statement.statement M
    × headwords-form-statement.statement M
    × headwords-spell-statement.statement M
    × headwords-analyse-words-statement.statement M
    × headwords-convert-statement.statement M

pub each_ends : {M : Type 1} → Ends M
each_ends = (
  analyse-met.met,
  generate-met.met,
  seal-met.met,
  check-met.met,
  form-reply-met.met,
  form-view-met.met,
  judge-met.met,
  judge-rules-met.met,
  spell-met.met,
  analyse-words-met.met,
  convert-met.met,
  headwords-analyse-met.met,
  headwords-generate-met.met,
  headwords-seal-met.met,
  headwords-check-met.met,
  headwords-judge-met.met,
  headwords-judge-rules-met.met,
  headwords-form-met.met,
  headwords-spell-met.met,
  headwords-analyse-words-met.met,
  headwords-convert-met.met,
)
