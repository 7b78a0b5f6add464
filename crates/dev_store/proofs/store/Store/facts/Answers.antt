use Rattle.std.proofs.Common.{◌∙◌, sym, ap, subst, length, option_map}
use Rattle.dev_model.specs.Partitions.{bytes_of}
use Rattle.dev_model.specs.Variables.{value, all_rows}
use Rattle.dev_store.specs.Reading.{table_within}
use Rattle.dev_store.specs.StoreCalls.{started_in, names_of, kind_of}
use Rattle.dev_store.specs.ToldRows.{AreFactsOf}
use Rattle.dev_store.proofs.ToldStore.{kept-tells, kept-tellable}
use Rattle.dev_store.proofs.store.Store.facts.Goals as goal

pub returns : goal.returns
returns g c =
    let s = c.self.inside in
    let a = subst (λ table. AreFactsOf s.layout s.state table c.args.userspace c.facts_of.result) c.table_of.ensures c.facts_of.ensures in
    let t = kept-tells s.layout s.state (table_within s.within) _ c.args.userspace c.facts_of.result c.self.invariant.kept a in
    record {
      value = λ name. sym (t.value name) ∙ ap (λ h. value (started_in c.args.userspace h.device) name) c.self.view_is;
      all = sym t.all ∙ ap (λ h. all_rows (started_in c.args.userspace h.device)) c.self.view_is;
      names = sym t.names ∙ ap (λ h. names_of h.device) c.self.view_is;
      kinds = λ name. sym (t.kind name) ∙ ap (λ h. kind_of h.device name) c.self.view_is;
      lengths = λ name. sym (t.length name) ∙ ap (λ h. option_map length (bytes_of h.device name)) c.self.view_is;
      tellable = kept-tellable s.layout s.state (table_within s.within) _ c.args.userspace c.facts_of.result c.self.invariant.kept a;
    }
