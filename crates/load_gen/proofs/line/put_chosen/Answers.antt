use Rattle.std.proofs.Common.{◌∙◌, ◌++◌, ap, codes, arith}
use Rattle.eon_model.specs.LoadGenerator.{choice_of}
use Rattle.load_gen.proofs.ChoiceLaws.{chosen, either-choice, last-choice}
use Rattle.load_gen.proofs.line.put_chosen.Goals as goal

pub returns-in-8 : goal.returns-in-8
returns-in-8 c = either-choice c.args.setup.now c.args.word c.args.i c.choice_of.result (choice_of c.args.word)
    c.put_earlier-in-8.new.out c.choice_of.ensures.value (search arith) (search arith) c.put_earlier-in-8.ensures.text

pub returns-in-10 : goal.returns-in-10
returns-in-10 c = chosen c.args.setup.now c.args.word c.args.i c.choice_of.result (choice_of c.args.word) 10
    c.put_push.new.out c.choice_of.ensures.value c.in-10.is c.put_push.ensures

pub returns-in-11 : goal.returns-in-11
returns-in-11 c = chosen c.args.setup.now c.args.word c.args.i c.choice_of.result (choice_of c.args.word) 11
    c.put_earlier.new.out c.choice_of.ensures.value c.in-11.is c.put_earlier.ensures.text

pub returns-in-12 : goal.returns-in-12
returns-in-12 c = chosen c.args.setup.now c.args.word c.args.i c.choice_of.result (choice_of c.args.word) 12
    c.put_earlier-in-12.new.out c.choice_of.ensures.value c.in-12.is c.put_earlier-in-12.ensures.text

pub returns-in-14 : goal.returns-in-14
returns-in-14 c = chosen c.args.setup.now c.args.word c.args.i c.choice_of.result (choice_of c.args.word) 14
    c.put_earlier-in-14.new.out c.choice_of.ensures.value c.in-14.is c.put_earlier-in-14.ensures.text

pub returns-in_default : goal.returns-in_default
returns-in_default c = last-choice c.args.setup.now c.args.word c.args.i c.choice_of.result (choice_of c.args.word)
    c.put-in_default.new.self c.choice_of.ensures.value c.choice_of.ensures.few (search arith)
    (c.put-in_default.ensures ∙ ap (λ bytes. bytes ++ codes "compact") c.requires.empty)
