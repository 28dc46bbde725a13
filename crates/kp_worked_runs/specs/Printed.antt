-- The tables that the worked runs print, line by line, as iptables-save(8) writes them.
use Rattle.std.specs.Prelude.{ℕ, List, [], ◌∷◌, ◌++◌, codes}

-- the chains that each nat table has before those of Services
abbrev pub nat_chains : List (List ℕ)
nat_chains =
    codes "*nat" ∷ codes ":PREROUTING ACCEPT [0:0]" ∷ codes ":INPUT ACCEPT [0:0]"
    ∷ codes ":OUTPUT ACCEPT [0:0]" ∷ codes ":POSTROUTING ACCEPT [0:0]"
    ∷ codes ":KUBE-MARK-MASQ - [0:0]" ∷ codes ":KUBE-NODEPORTS - [0:0]"
    ∷ codes ":KUBE-POSTROUTING - [0:0]" ∷ []

-- the rules before those of Services
abbrev pub nat_rules : List (List ℕ)
nat_rules =
    codes "-A PREROUTING -j KUBE-SERVICES" ∷ codes "-A OUTPUT -j KUBE-SERVICES"
    ∷ codes "-A POSTROUTING -j KUBE-POSTROUTING"
    ∷ codes "-A KUBE-MARK-MASQ -j MARK --or-mark 0x4000"
    ∷ codes "-A KUBE-POSTROUTING -m mark ! --mark 0x4000/0x4000 -j RETURN"
    ∷ codes "-A KUBE-POSTROUTING -j MARK --xor-mark 0x4000"
    ∷ codes "-A KUBE-POSTROUTING -j MASQUERADE" ∷ []

-- the rule that leads to node ports
abbrev pub to_node_ports : List ℕ
to_node_ports =
    codes "-A KUBE-SERVICES ! -d 127.0.0.0/8 -m addrtype --dst-type LOCAL -j KUBE-NODEPORTS"

-- a nat table without Services
abbrev pub nat_of_none : List (List ℕ)
nat_of_none =
    nat_chains ++ codes ":KUBE-SERVICES - [0:0]" ∷ nat_rules
    ++ to_node_ports ∷ codes "COMMIT" ∷ []

-- a nat table of the Service with one endpoint, whose address this is
abbrev pub nat_of_one : List ℕ → List (List ℕ)
nat_of_one address =
    nat_chains
    ++ codes ":KUBE-SEP- - [0:0]" ∷ codes ":KUBE-SERVICES - [0:0]" ∷ codes ":KUBE-SVC- - [0:0]"
    ∷ nat_rules
    ++ (codes "-A KUBE-SEP- -s " ++ address ++ codes "/32 -j KUBE-MARK-MASQ")
    ∷ (codes "-A KUBE-SEP- -p tcp -j DNAT --to-destination " ++ address ++ codes ":8080")
    ∷ codes "-A KUBE-SERVICES -d 10.96.0.10/32 -p tcp -m tcp --dport 80 -j KUBE-SVC-"
    ∷ to_node_ports
    ∷ (codes "-A KUBE-SVC- ! -s 10.244.0.0/16 -d 10.96.0.10/32 -p tcp -m tcp --dport 80"
    ++ codes " -j KUBE-MARK-MASQ")
    ∷ codes "-A KUBE-SVC- -j KUBE-SEP-" ∷ codes "COMMIT" ∷ []

-- a filter table with these rules of Services without endpoints
abbrev pub filter_with : List (List ℕ) → List (List ℕ)
filter_with rules =
    codes "*filter" ∷ codes ":INPUT ACCEPT [0:0]" ∷ codes ":FORWARD ACCEPT [0:0]"
    ∷ codes ":OUTPUT ACCEPT [0:0]" ∷ codes ":KUBE-EXTERNAL-SERVICES - [0:0]"
    ∷ codes ":KUBE-FORWARD - [0:0]" ∷ codes ":KUBE-PROXY-FIREWALL - [0:0]"
    ∷ codes ":KUBE-SERVICES - [0:0]"
    ∷ codes "-A INPUT -j KUBE-PROXY-FIREWALL" ∷ codes "-A INPUT -j KUBE-EXTERNAL-SERVICES"
    ∷ codes "-A FORWARD -j KUBE-PROXY-FIREWALL" ∷ codes "-A FORWARD -j KUBE-EXTERNAL-SERVICES"
    ∷ codes "-A FORWARD -j KUBE-SERVICES" ∷ codes "-A FORWARD -j KUBE-FORWARD"
    ∷ codes "-A OUTPUT -j KUBE-PROXY-FIREWALL" ∷ codes "-A OUTPUT -j KUBE-SERVICES"
    ∷ codes "-A KUBE-FORWARD -m mark --mark 0x4000/0x4000 -j ACCEPT"
    ∷ rules ++ codes "COMMIT" ∷ []
