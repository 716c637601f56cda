-- Specifications of which nothing is missing: each parameter is of a kind, each heading has a type, and each demand one that is wanted.
use Rattle.std.specs.Prelude.{◌≡◌, Bool, true, is_some}
use Rattle.std.specs.List.{AllByRecursion}
use Rattle.clu_checking.specs.Specifications.{Demand, Form, Heading, Specification, of_cluster, of_routine}

abbrev pub IsTypedDemand : Demand → Type 0
IsTypedDemand d = is_some d.wanted ≡ true

pub record IsWholeHeading (h : Heading) : Type 0 where
  pub type : is_some h.type ≡ true
  pub demands : AllByRecursion IsTypedDemand h.demands

abbrev pub IsWholeForm : Form → Type 0
IsWholeForm (of_routine h) = IsWholeHeading h
IsWholeForm (of_cluster ds hs) = AllByRecursion IsTypedDemand ds × AllByRecursion IsWholeHeading hs

pub record IsWholeTold (s : Specification) : Type 0 where
  pub kinds : AllByRecursion (λ k. is_some k ≡ true) s.kinds
  pub form : IsWholeForm s.form
