use Rattle.std.proofs.Common.{◌≡◌, ℕ, true, ◌&&◌, nat_eq, List, ap}
use Rattle.std.proofs.lemmas.Bool.{eq-eqb, eqb-true, false≢true}
use Rattle.wire_names.specs.rr.domain.NameOrder.{name_eq, lower_name}
use Rattle.wire_names.specs.representation.NameHash.{same_from_eq}
use Rattle.wire_messages.specs.rr.RecordSameness.{lower_mx, lower_soa}
use Rattle.wire_messages.specs.declared.rr.rdata.MX.{MX}
use Rattle.wire_messages.specs.declared.rr.rdata.SOA.{SOA}
use Rattle.wire_names.proofs.lemmas.rr.domain.SameNames.{eq_from_same}
use Rattle.std.specs.Cmp.Lexicographic.{pointwise}
use Rattle.wire_messages.specs.declared.rr.rdata.RData.{RData}
use Rattle.wire_messages.specs.declared.rr.rdata.RData.TheVariants as rdata
use Rattle.wire_messages.proofs.lemmas.rr.RecordComparing.{both_hold, hold_both, lower_from_eq, eq_from_lower, octets_from_eq, octets_equal, texts_from_eq, texts_equal, options_from_eq, options_equal, number_from_eq, number_equal, signature_from_eq, signature_equal}
use Rattle.std.specs.declared.net.ipv4_addr.Ipv4Addr.{Ipv4Addr}
use Rattle.std.specs.declared.net.ipv6_addr.Ipv6Addr.{Ipv6Addr}
use Rattle.wire_messages.proofs.rr.record_sameness.record_comparisons.Goals as goal

-- a number for each form of data, so that two forms differ by computing
form : RData → ℕ
form (rdata.A _) = 0
form (rdata.AAAA _) = 1
form (rdata.NS _) = 2
form (rdata.CNAME _) = 3
form (rdata.PTR _) = 4
form (rdata.MX _) = 5
form (rdata.SOA _) = 6
form (rdata.TXT _) = 7
form (rdata.OPT _) = 8
form (rdata.TSIG _) = 9
form (rdata.NULL _) = 10
form (rdata.Update0 _) = 11
form (rdata.Unknown _ _) = 12

pub returns-clause-rdata : goal.returns-clause-rdata
unfolding form
returns-clause-rdata c (rdata.A x) (rdata.A y) = (λ h. ap (λ (o : List ℕ). let a : Ipv4Addr = record { octets = o } in rdata.A a) (octets_from_eq _ _ h), λ e. let f : x ≡ y = cc in rw (← f) (octets_equal x.octets))
returns-clause-rdata c (rdata.AAAA x) (rdata.AAAA y) = (λ h. ap (λ (o : List ℕ). let a : Ipv6Addr = record { segments = o } in rdata.AAAA a) (octets_from_eq _ _ h), λ e. let f : x ≡ y = cc in rw (← f) (octets_equal x.segments))
returns-clause-rdata c (rdata.NS x) (rdata.NS y) = (λ h. ap rdata.NS (lower_from_eq x y h), λ e. eq_from_lower x y (cc))
returns-clause-rdata c (rdata.CNAME x) (rdata.CNAME y) = (λ h. ap rdata.CNAME (lower_from_eq x y h), λ e. eq_from_lower x y (cc))
returns-clause-rdata c (rdata.PTR x) (rdata.PTR y) = (λ h. ap rdata.PTR (lower_from_eq x y h), λ e. eq_from_lower x y (cc))
returns-clause-rdata c (rdata.MX x) (rdata.MX y) = (
  λ h. let both : (nat_eq x.preference y.preference ≡ true) × (name_eq x.exchange y.exchange ≡ true) = both_hold _ _ h in
      let p : x.preference ≡ y.preference = number_from_eq _ _ both.0 in
      let q : lower_name x.exchange ≡ lower_name y.exchange = lower_from_eq _ _ both.1 in cc,
  λ e. let m : lower_mx x ≡ lower_mx y = cc in
      let p : x.preference ≡ y.preference = ap (λ (r : MX). r.preference) m in let q : lower_name x.exchange ≡ lower_name y.exchange = ap (λ (r : MX). r.exchange) m in
      hold_both _ _ (number_equal _ _ p) (eq_from_lower _ _ q),
)
returns-clause-rdata c (rdata.SOA x) (rdata.SOA y) = (
  λ h.
      let b0 : (name_eq x.mname y.mname ≡ true) × ((name_eq x.rname y.rname && (nat_eq x.serial y.serial && (nat_eq x.refresh y.refresh && (nat_eq x.retry y.retry && (nat_eq x.expire y.expire && nat_eq x.minimum y.minimum))))) ≡ true) = both_hold _ _ h in
      let b1 : (name_eq x.rname y.rname ≡ true) × ((nat_eq x.serial y.serial && (nat_eq x.refresh y.refresh && (nat_eq x.retry y.retry && (nat_eq x.expire y.expire && nat_eq x.minimum y.minimum)))) ≡ true) = both_hold _ _ b0.1 in
      let b2 : (nat_eq x.serial y.serial ≡ true) × ((nat_eq x.refresh y.refresh && (nat_eq x.retry y.retry && (nat_eq x.expire y.expire && nat_eq x.minimum y.minimum))) ≡ true) = both_hold _ _ b1.1 in
      let b3 : (nat_eq x.refresh y.refresh ≡ true) × ((nat_eq x.retry y.retry && (nat_eq x.expire y.expire && nat_eq x.minimum y.minimum)) ≡ true) = both_hold _ _ b2.1 in
      let b4 : (nat_eq x.retry y.retry ≡ true) × ((nat_eq x.expire y.expire && nat_eq x.minimum y.minimum) ≡ true) = both_hold _ _ b3.1 in
      let b5 : (nat_eq x.expire y.expire ≡ true) × ((nat_eq x.minimum y.minimum) ≡ true) = both_hold _ _ b4.1 in
      let p0 : lower_name x.mname ≡ lower_name y.mname = lower_from_eq _ _ b0.0 in
      let p1 : lower_name x.rname ≡ lower_name y.rname = lower_from_eq _ _ b1.0 in
      let p2 : x.serial ≡ y.serial = number_from_eq _ _ b2.0 in
      let p3 : x.refresh ≡ y.refresh = number_from_eq _ _ b3.0 in
      let p4 : x.retry ≡ y.retry = number_from_eq _ _ b4.0 in
      let p5 : x.expire ≡ y.expire = number_from_eq _ _ b5.0 in
      let p6 : x.minimum ≡ y.minimum = number_from_eq _ _ b5.1 in cc,
  λ e.
      let m : lower_soa x ≡ lower_soa y = cc in
      let p0 : lower_name x.mname ≡ lower_name y.mname = ap (λ (r : SOA). r.mname) m in
      let p1 : lower_name x.rname ≡ lower_name y.rname = ap (λ (r : SOA). r.rname) m in
      let p2 : x.serial ≡ y.serial = ap (λ (r : SOA). r.serial) m in
      let p3 : x.refresh ≡ y.refresh = ap (λ (r : SOA). r.refresh) m in
      let p4 : x.retry ≡ y.retry = ap (λ (r : SOA). r.retry) m in
      let p5 : x.expire ≡ y.expire = ap (λ (r : SOA). r.expire) m in
      let p6 : x.minimum ≡ y.minimum = ap (λ (r : SOA). r.minimum) m in
      hold_both _ _ (eq_from_lower _ _ p0) (hold_both _ _ (eq_from_lower _ _ p1) (hold_both _ _ (number_equal _ _ p2) (hold_both _ _ (number_equal _ _ p3) (hold_both _ _ (number_equal _ _ p4) (hold_both _ _ (number_equal _ _ p5) (number_equal _ _ p6)))))),
)
returns-clause-rdata c (rdata.TXT x) (rdata.TXT y) = (λ h. ap rdata.TXT (texts_from_eq x y h), λ e. let f : x ≡ y = cc in rw (← f) (texts_equal x))
returns-clause-rdata c (rdata.OPT x) (rdata.OPT y) = (λ h. ap rdata.OPT (options_from_eq x y h), λ e. let f : x ≡ y = cc in rw (← f) (options_equal x))
returns-clause-rdata c (rdata.TSIG x) (rdata.TSIG y) = (λ h. ap rdata.TSIG (signature_from_eq x y h), λ e. signature_equal x y (cc))
returns-clause-rdata c (rdata.NULL x) (rdata.NULL y) = (λ h. ap rdata.NULL (octets_from_eq x y h), λ e. let f : x ≡ y = cc in rw (← f) (octets_equal x))
returns-clause-rdata c (rdata.Update0 x) (rdata.Update0 y) = (λ h. ap rdata.Update0 (eqb-true x y h), λ e. eq-eqb x y (cc))
returns-clause-rdata c (rdata.Unknown x xs) (rdata.Unknown y ys) = (
  λ h. let both : (nat_eq x y ≡ true) × (pointwise nat_eq xs ys ≡ true) = both_hold _ _ h in
      let p : x ≡ y = number_from_eq _ _ both.0 in
      let q : xs ≡ ys = octets_from_eq _ _ both.1 in cc,
  λ e. let p : x ≡ y = cc in let q : xs ≡ ys = cc in hold_both _ _ (number_equal _ _ p) (rw (← q) (octets_equal xs)),
)
returns-clause-rdata c x y = (λ h. absurd (false≢true h), λ e. absurd (false≢true (ap (λ (d : RData). nat_eq (form d) (form y)) e)))

pub returns-clause-records : goal.returns-clause-records
returns-clause-records c = λ a b. (
  λ h. let first : (name_eq a.name b.name ≡ true) × _ = both_hold _ _ h in
      let second = both_hold _ _ first.1 in
      record { name = same_from_eq _ _ first.0; class = number_from_eq _ _ second.0; rdata = (returns-clause-rdata c a.rdata b.rdata).0 second.1 },
  λ s. hold_both _ _ (eq_from_same _ _ s.name) (hold_both _ _ (number_equal _ _ s.class) ((returns-clause-rdata c a.rdata b.rdata).1 s.rdata)),
)
