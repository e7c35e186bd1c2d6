-- The numbers that have names, as IANA's registries have them (RFC 6895).
use Rattle.std.specs.Prelude.{ℕ}

-- Types of records and of questions (RFC 6895 section 3.1).
abbrev pub type_a : ℕ
type_a = 1

abbrev pub type_ns : ℕ
type_ns = 2

abbrev pub type_cname : ℕ
type_cname = 5

abbrev pub type_soa : ℕ
type_soa = 6

abbrev pub type_null : ℕ
type_null = 10

abbrev pub type_ptr : ℕ
type_ptr = 12

abbrev pub type_mx : ℕ
type_mx = 15

abbrev pub type_txt : ℕ
type_txt = 16

abbrev pub type_sig : ℕ
type_sig = 24

abbrev pub type_key : ℕ
type_key = 25

abbrev pub type_aaaa : ℕ
type_aaaa = 28

abbrev pub type_srv : ℕ
type_srv = 33

abbrev pub type_dname : ℕ
type_dname = 39

abbrev pub type_opt : ℕ
type_opt = 41

abbrev pub type_ds : ℕ
type_ds = 43

abbrev pub type_rrsig : ℕ
type_rrsig = 46

abbrev pub type_nsec : ℕ
type_nsec = 47

abbrev pub type_dnskey : ℕ
type_dnskey = 48

abbrev pub type_nsec3 : ℕ
type_nsec3 = 50

abbrev pub type_nsec3param : ℕ
type_nsec3param = 51

abbrev pub type_cds : ℕ
type_cds = 59

abbrev pub type_cdnskey : ℕ
type_cdnskey = 60

abbrev pub type_svcb : ℕ
type_svcb = 64

abbrev pub type_https : ℕ
type_https = 65

abbrev pub type_tsig : ℕ
type_tsig = 250

abbrev pub type_ixfr : ℕ
type_ixfr = 251

abbrev pub type_axfr : ℕ
type_axfr = 252

abbrev pub type_mailb : ℕ
type_mailb = 253

abbrev pub type_maila : ℕ
type_maila = 254

abbrev pub type_any : ℕ
type_any = 255

-- Classes (RFC 1035 sections 3.2.4 and 3.2.5, RFC 2136 section 1.3).
abbrev pub class_in : ℕ
class_in = 1

abbrev pub class_ch : ℕ
class_ch = 3

abbrev pub class_hs : ℕ
class_hs = 4

abbrev pub class_none : ℕ
class_none = 254

abbrev pub class_any : ℕ
class_any = 255

-- Kinds of requests (RFC 6895 section 2.2).
abbrev pub opcode_query : ℕ
opcode_query = 0

abbrev pub opcode_iquery : ℕ
opcode_iquery = 1

abbrev pub opcode_status : ℕ
opcode_status = 2

abbrev pub opcode_notify : ℕ
opcode_notify = 4

abbrev pub opcode_update : ℕ
opcode_update = 5

-- Response codes (RFC 6895 section 2.3).
abbrev pub code_no_error : ℕ
code_no_error = 0

abbrev pub code_form_err : ℕ
code_form_err = 1

abbrev pub code_serv_fail : ℕ
code_serv_fail = 2

abbrev pub code_nx_domain : ℕ
code_nx_domain = 3

abbrev pub code_not_imp : ℕ
code_not_imp = 4

abbrev pub code_refused : ℕ
code_refused = 5

abbrev pub code_yx_domain : ℕ
code_yx_domain = 6

abbrev pub code_yx_rrset : ℕ
code_yx_rrset = 7

abbrev pub code_nx_rrset : ℕ
code_nx_rrset = 8

abbrev pub code_not_auth : ℕ
code_not_auth = 9

abbrev pub code_not_zone : ℕ
code_not_zone = 10

abbrev pub code_bad_vers : ℕ
code_bad_vers = 16
